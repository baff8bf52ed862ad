-- Each test of a record's rules, with what is known of the records passed, is true exactly where its rule is broken.
-- And a good record is one that keeps every rule of the list, by name; and 0 is the number of none.
-- Assumes nothing.
use Prim.Native.Nat.{ℕ, ◌+◌, ◌-◌, ◌≤◌, ◌<◌}
use mathlib.Core.Path.{◌≡◌, refl, sym, ◌∙◌}
use mathlib.Core.Bool.{false≢true}
use mathlib.Core.List.{List}
use lib.Dec.{ltb}
use native.Mathlib.Omega.{arith}
use Rattle.laws.specs.Ladder.{Keeps}
use Rattle.laws.proofs.LadderLaws.{Caught, rung, breaks_number}
use Rattle.laws.proofs.Tests.{Catches, catches_as, catches_lt, catches_le, catches_eq, catches_ne, catches_neither, catches_or, catches_when}
use Rattle.table.specs.declared.record.Record.{Record}
use Rattle.table.specs.declared.rules.SoFar.{SoFar}
use Rattle.table.specs.Bytes.{record_of}
use Rattle.table.specs.TableRules.{off_run, bad_kind, too_many, has_zero, uneven}
use Rattle.table.specs.WellFormed.{InRun, KindRight, HasRoom, NotZero, Even, table_rules, GoodRecord}
use Rattle.table.specs.TableRefusals.{RecordBreaks}
use Rattle.table.proofs.KnownLaws.{Known, in_run_of, next_task, shared, on_before, on_first, on_kind, on_p}

-- what is left where the tests of the rules 3 to 6 are false, of record x after what is known, b
abbrev KindKept : SoFar → Record → Type 0
KindKept b x =
    ((1 ≤ x.kind) × (x.kind ≤ 3)) × (x.task + 1 ≡ b.tasks → (x.kind ≡ b.kind) × (x.kind ≡ 1 → ⊥))

abbrev RoomKept : SoFar → Record → Type 0
RoomKept b x = x.task + 1 ≡ b.tasks → b.frames < 16

abbrev ZeroKept : Record → Type 0
ZeroKept x = ((x.e ≡ 0 → ⊥) × (x.d ≡ 0 → ⊥)) × (x.p ≡ 0 → ⊥)

abbrev EvenKept : SoFar → Record → Type 0
EvenKept b x = x.kind ≡ 2 → (x.d ≡ x.p) × (x.task + 1 ≡ b.tasks → x.p ≡ b.p)

module _ {s : List ℕ} {i : ℕ} {b : SoFar} (known : Known s i b) where
  -- ---- rule 2

  catches_2 : Catches (off_run b (record_of s i)) (InRun s i)
  catches_2 =
      catches_as
      (λ (low, next). in_run_of known low next)
      (λ in_run. (in_run.low, next_task known in_run))
      (catches_or (catches_lt 15 _) (catches_neither _ _ _ _))

  -- ---- rule 3

  kind_right : InRun s i → KindKept b (record_of s i) → KindRight s i
  kind_right in_run ((low, high), in_task) =
      record {
        low = low;
        high = high;
        one = λ j same.
            let with_j = shared known in_run j same in
            let (one, lone) = in_task with_j.goes_on in
            one ∙ sym with_j.last.kind;
        lone = λ j same. let (one, lone) = in_task (shared known in_run j same).goes_on in lone;
      }

  kind_kept : KindRight s i → KindKept b (record_of s i)
  kind_kept right =
      ((right.low, right.high), λ on. (on_kind known on right, right.lone (i - 1) (on_before known on)))

  catches_3 : InRun s i → Catches (bad_kind b (record_of s i)) (KindRight s i)
  catches_3 in_run =
      catches_as (kind_right in_run) kind_kept
      (catches_or
      (catches_or (catches_lt _ 1) (catches_lt 3 _))
      (catches_when _ _ (catches_or (catches_ne _ _) (catches_eq _ 1))))

  -- ---- rule 4

  has_room : InRun s i → RoomKept b (record_of s i) → HasRoom s i
  has_room in_run keeps j same =
      let with_j = shared known in_run j same in omega (arith, with_j.near, keeps with_j.goes_on)

  room_kept : HasRoom s i → RoomKept b (record_of s i)
  room_kept room on = omega (arith, known.within, room (i - b.frames) (on_first known on))

  catches_4 : InRun s i → Catches (too_many b (record_of s i)) (HasRoom s i)
  catches_4 in_run = catches_as (has_room in_run) room_kept (catches_when _ _ (catches_le _ _))

  -- ---- rule 5

  not_zero : ZeroKept (record_of s i) → NotZero s i
  not_zero ((e, d), p) = record { e = omega (arith, e); d = omega (arith, d); p = omega (arith, p) }

  zero_kept : NotZero s i → ZeroKept (record_of s i)
  zero_kept some = ((λ none. omega (arith, some.e), λ none. omega (arith, some.d)), λ none. omega (arith, some.p))

  catches_5 : Catches (has_zero (record_of s i)) (NotZero s i)
  catches_5 =
      catches_as not_zero zero_kept (catches_or (catches_or (catches_eq _ 0) (catches_eq _ 0)) (catches_eq _ 0))

  -- ---- rule 6

  even : InRun s i → KindRight s i → EvenKept b (record_of s i) → Even s i
  even in_run right keeps =
      record {
        due = λ two. let (due, steady) = keeps two in due;
        steady = λ j same two.
            let with_j = shared known in_run j same in
            let (due, steady) = keeps two in
            let kind = sym (on_kind known with_j.goes_on right) ∙ two in
            steady with_j.goes_on ∙ sym (with_j.last.p kind);
      }

  even_kept : KindRight s i → Even s i → EvenKept b (record_of s i)
  even_kept right steady two = (steady.due two, λ on. on_p known on right steady two)

  catches_6 : InRun s i → KindRight s i → Catches (uneven b (record_of s i)) (Even s i)
  catches_6 in_run right =
      catches_as (even in_run right) (even_kept right)
      (catches_when _ 2 (catches_or (catches_ne _ _) (catches_when _ _ (catches_ne _ _))))

  -- ---- all of them: a test may lean on the rules above its own

  pub table_rules_caught : Caught table_rules (b, record_of s i) (s, i)
  table_rules_caught =
      rung catches_2 (λ in_run.
      rung (catches_3 in_run) (λ kind_right.
      rung (catches_4 in_run) (λ has_room.
      rung catches_5 (λ not_zero.
      rung (catches_6 in_run kind_right) (λ even. tt)))))

-- ---- a good record keeps them, by name

pub good_record_keeps : {s : List ℕ} {j : ℕ} → GoodRecord s j → Keeps table_rules (s, j)
good_record_keeps good = (good.in_run, (good.kind_right, (good.has_room, (good.not_zero, (good.even, tt)))))

pub keeps_good_record : (s : List ℕ) (j : ℕ) → Keeps table_rules (s, j) → GoodRecord s j
keeps_good_record s j (in_run, (kind_right, (has_room, (not_zero, (even, all))))) =
    record { in_run = in_run; kind_right = kind_right; has_room = has_room; not_zero = not_zero; even = even }

pub record_breaks_some : (s : List ℕ) (j : ℕ) → RecordBreaks s j 0 → ⊥
record_breaks_some s j breaks = false≢true (breaks_number (s, j) (ltb 0) table_rules refl 0 0 breaks)
