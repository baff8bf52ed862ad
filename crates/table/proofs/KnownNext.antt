-- What the reader knows after a good record.
-- Assumes nothing.
use Prim.Native.Nat.{ℕ, ◌+◌, ◌≤◌, ◌<◌}
use mathlib.Core.Path.{◌≡◌, refl, ◌∙◌}
use mathlib.Core.Logic.{inl, inr}
use mathlib.Core.List.{List}
use mathlib.Core.Bool.{Bool, true, false}
use native.Mathlib.Omega.{arith}
use borrow.Author.Tests.{eqb-true, eqb-false}
use Rattle.laws.proofs.Cases.{lt_or_le}
use Rattle.table.specs.declared.record.Record.{Record}
use Rattle.table.specs.declared.rules.SoFar.{SoFar}
use Rattle.table.specs.Bytes.{record_of}
use Rattle.table.specs.TableRules.{begins, table_after}
use Rattle.table.specs.WellFormed.{GoodRecord}
use Rattle.table.proofs.KnownLaws.{LastTask, Known, below, next_task, on_kind, on_p}

-- the two states that may follow
abbrev begun : Record → SoFar
begun x = record { tasks = x.task + 1; frames = 1; kind = x.kind; p = x.p }

abbrev gone_on : SoFar → SoFar
gone_on b = record { tasks = b.tasks; frames = b.frames + 1; kind = b.kind; p = b.p }

module _ {s : List ℕ} {i : ℕ} {b : SoFar} (known : Known s i b) where
  known_begins : (record_of s i).task ≡ b.tasks → Known s (i + 1) (begun (record_of s i))
  known_begins next =
      record {
        within = omega arith;
        none = λ first. absurd (omega arith);
        some = λ more. omega arith;
        last = λ j before near.
            let here : j ≡ i = omega arith in rw here (record { task = refl; kind = refl; p = λ two. refl });
        earlier = λ j far. omega (arith, below known j (omega arith));
      }

  module _ (good : GoodRecord s i) (on : (record_of s i).task + 1 ≡ b.tasks) where
    last_here : LastTask s (gone_on b) i
    last_here =
        let kind = on_kind known on good.kind_right in
        record { task = on; kind = kind; p = λ two. on_p known on good.kind_right good.even (kind ∙ two) }

    last_on : (j : ℕ) → j < i + 1 → i + 1 ≤ j + (b.frames + 1) → LastTask s (gone_on b) j
    last_on j before near =
        elim (lt_or_le j i) [
          | inl less ↦
              let last = known.last j less (omega arith) in
              record { task = last.task; kind = last.kind; p = last.p }
          | inr more ↦ let here : j ≡ i = omega arith in rw here last_here
        ]

    known_on : Known s (i + 1) (gone_on b)
    known_on =
        record {
          within = omega (arith, known.within);
          none = λ first. absurd (omega arith);
          some = λ more. omega arith;
          last = last_on;
          earlier = λ j far. known.earlier j (omega arith);
        }

  pub known_next : GoodRecord s i → Known s (i + 1) (table_after b (record_of s i))
  known_next good = which (begins b (record_of s i)) refl
    where
      which : (t : Bool) → begins b (record_of s i) ≡ t → Known s (i + 1) (table_after b (record_of s i))
      which true e = rw e (known_begins (eqb-true _ _ e))
      which false e =
          elim (next_task known good.in_run) [
            | inl next ↦ absurd (eqb-false _ _ e next)
            | inr on ↦ rw e (known_on good on)
          ]
