-- What the reader knows of the records before record i, and which of them are frames of record i's task.
-- Assumes nothing.
use Prim.Native.Nat.{ℕ, ◌+◌, ◌-◌, ◌≤◌, ◌<◌}
use mathlib.Core.Path.{◌≡◌, refl, sym, ◌∙◌}
use mathlib.Core.Logic.{◌⊎◌, inl, inr}
use mathlib.Core.List.{List}
use native.Mathlib.Omega.{arith}
use Rattle.laws.proofs.Cases.{lt_or_le}
use Rattle.table.specs.declared.rules.SoFar.{SoFar}
use Rattle.table.specs.Bytes.{record_of}
use Rattle.table.specs.TableRules.{nothing_known}
use Rattle.table.specs.WellFormed.{SameTask, InRun, KindRight, Even}

-- record j is a frame of the last task
pub record LastTask (s : List ℕ) (b : SoFar) (j : ℕ) : Type 0 where
  pub task : (record_of s j).task + 1 ≡ b.tasks
  pub kind : (record_of s j).kind ≡ b.kind
  pub p : b.kind ≡ 2 → (record_of s j).p ≡ b.p

-- the last `frames` records before record i are those of the last task
pub record Known (s : List ℕ) (i : ℕ) (b : SoFar) : Type 0 where
  pub within : b.frames ≤ i
  pub none : i ≡ 0 → b.tasks ≡ 0
  pub some : 1 ≤ i → 1 ≤ b.frames
  pub last : (j : ℕ) → j < i → i ≤ j + b.frames → LastTask s b j
  pub earlier : (j : ℕ) → j + b.frames < i → (record_of s j).task + 1 < b.tasks

pub known_start : (s : List ℕ) → Known s 0 nothing_known
known_start s =
    record {
      within = omega arith;
      none = λ first. refl;
      some = λ more. absurd (omega arith);
      last = λ j before near. absurd (omega arith);
      earlier = λ j far. absurd (omega arith);
    }

-- record j, before record i, is a frame of the same task
pub record Shared (s : List ℕ) (i : ℕ) (b : SoFar) (j : ℕ) : Type 0 where
  pub goes_on : (record_of s i).task + 1 ≡ b.tasks
  pub near : i ≤ j + b.frames
  pub last : LastTask s b j

module _ {s : List ℕ} {i : ℕ} {b : SoFar} (known : Known s i b) where
  pub below : (j : ℕ) → j < i → (record_of s j).task + 1 ≤ b.tasks
  below j before =
      elim (lt_or_le (j + b.frames) i) [
        | inl far ↦ omega (arith, known.earlier j far)
        | inr near ↦ omega (arith, (known.last j before near).task)
      ]

  just_before : (j : ℕ) → j + 1 ≡ i → LastTask s b j
  just_before j before = known.last j (omega arith) (omega (arith, known.some (omega arith)))

  pub before_it : 1 ≤ i → LastTask s b (i - 1)
  before_it more = just_before (i - 1) (omega arith)

  -- record i begins the next task, or goes on with the last one
  pub next_task : InRun s i → ((record_of s i).task ≡ b.tasks) ⊎ ((record_of s i).task + 1 ≡ b.tasks)
  next_task in_run =
      elim (lt_or_le 0 i) [
        | inl more ↦ elim (in_run.run (i - 1) (omega arith)) [
          | inl same ↦ inr (omega (arith, (before_it more).task))
          | inr next ↦ inl (omega (arith, (before_it more).task))
        ]
        | inr first ↦ inl (omega (arith, in_run.opens (omega arith), known.none (omega arith)))
      ]

  pub in_run_of : (record_of s i).task ≤ 15 → ((record_of s i).task ≡ b.tasks) ⊎ ((record_of s i).task + 1 ≡ b.tasks) →
      InRun s i
  in_run_of low (inl next) =
      record {
        low = low;
        opens = λ first. next ∙ known.none first;
        run = λ j before. inr (omega (arith, (just_before j before).task));
      }
  in_run_of low (inr on) =
      record {
        low = low;
        opens = λ first. absurd (omega (arith, known.none first));
        run = λ j before. inl (omega (arith, (just_before j before).task));
      }

  pub shared : InRun s i → (j : ℕ) → SameTask s j i → Shared s i b j
  shared in_run j same =
      elim (next_task in_run) [
        | inl next ↦ absurd (omega (arith, same.same, below j same.earlier))
        | inr on ↦ elim (lt_or_le (j + b.frames) i) [
          | inl far ↦ absurd (omega (arith, same.same, known.earlier j far))
          | inr near ↦ record { goes_on = on; near = near; last = known.last j same.earlier near }
        ]
      ]

  -- where record i goes on, the record before it and the task's first are frames of its task
  module _ (on : (record_of s i).task + 1 ≡ b.tasks) where
    pub on_some : 1 ≤ i
    on_some = elim (lt_or_le 0 i) [ inl more ↦ more | inr first ↦ absurd (omega (arith, known.none (omega arith))) ]

    pub on_before : SameTask s (i - 1) i
    on_before = record { earlier = omega (arith, on_some); same = omega (arith, (before_it on_some).task) }

    pub on_first : SameTask s (i - b.frames) i
    on_first =
        let earlier : i - b.frames < i = omega (arith, known.within, known.some on_some) in
        let last = known.last (i - b.frames) earlier (omega (arith, known.within)) in
        record { earlier = earlier; same = omega (arith, last.task) }

    pub on_kind : KindRight s i → (record_of s i).kind ≡ b.kind
    on_kind right = right.one (i - 1) on_before ∙ (before_it on_some).kind

    pub on_p : KindRight s i → Even s i → (record_of s i).kind ≡ 2 → (record_of s i).p ≡ b.p
    on_p right even two = even.steady (i - 1) on_before two ∙ (before_it on_some).p (sym (on_kind right) ∙ two)
