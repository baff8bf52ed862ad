-- The tests of the rules 10 and 11, of any table, state and record: what is left where each is false.
-- Assumes nothing.
use Prim.Native.Nat.{ℕ, ◌≤◌}
use mathlib.Core.Bool.{false≢true}
use mathlib.Core.Path.{◌≡◌}
use Rattle.std.specs.Prelude.{Option, Some, None}
use Rattle.laws.proofs.Tests.{Catches, catches_as, catches_lt, catches_ne, catches_or, catches_when}
use Rattle.model.specs.Task.{Table}
use Rattle.model.specs.Request.{HasFrame}
use Rattle.model.proofs.FrameLaws.{catches_frame}
use Rattle.requests.specs.declared.entry.Entry.{Entry}
use Rattle.requests.specs.declared.list_rules.Carry.{Carry}
use Rattle.requests.specs.declared.list_rules.Turn.{Turn}
use Rattle.requests.specs.ListRules.{misplaced, off_turn}

-- ---- rule 10

pub record InOrder (b : Carry) (x : Entry) : Type 0 where
  pub not_before : b.arrival ≤ x.arrival
  pub rising : x.arrival ≡ b.arrival → b.task ≤ x.task

pub record PlaceKept (last : ℕ) (table : Table) (b : Carry) (x : Entry) : Type 0 where
  pub pad : x.pad ≡ 0
  pub known : HasFrame table x.task x.frame
  pub near : x.arrival ≤ last
  pub in_order : InOrder b x

pub catches_place : (last : ℕ) (table : Table) (b : Carry) (x : Entry)
    → Catches (misplaced last table b x) (PlaceKept last table b x)
catches_place last table b x =
    catches_as
    (λ (pad, (known, (near, (not_before, rising)))). place pad known near not_before rising)
    (λ kept.
    let order = kept.in_order in
    (kept.pad, (kept.known, (kept.near, (order.not_before, order.rising)))))
    (catches_or
    (catches_ne _ 0)
    (catches_or
    (catches_frame table x.task x.frame)
    (catches_or (catches_lt last _) (catches_or (catches_lt _ _) (catches_when _ _ (catches_lt _ _))))))
  where
    place : x.pad ≡ 0 → HasFrame table x.task x.frame → x.arrival ≤ last → b.arrival ≤ x.arrival
        → (x.arrival ≡ b.arrival → b.task ≤ x.task) → PlaceKept last table b x
    place pad known near not_before rising =
        record {
          pad = pad;
          known = known;
          near = near;
          in_order = record { not_before = not_before; rising = rising };
        }

-- ---- rule 11

-- the record is what has to come next of its task
pub record Comes (turn : Turn) (x : Entry) : Type 0 where
  pub frame_is : x.frame ≡ turn.frame
  pub not_soon : turn.soonest ≤ x.arrival

-- nothing is asked of a task's first
abbrev pub TurnKept : Option Turn → Entry → Type 0
TurnKept None x = Unit {0}
TurnKept (Some turn) x = Comes turn x

pub catches_turn : (turn : Option Turn) (x : Entry) → Catches (off_turn turn x) (TurnKept turn x)
catches_turn None x = record { passed = λ e. tt; caught = λ e. absurd (false≢true e) }
catches_turn (Some turn) x =
    catches_as
    (λ (frame_is, not_soon). record { frame_is = frame_is; not_soon = not_soon })
    (λ kept. (kept.frame_is, kept.not_soon))
    (catches_or (catches_ne _ _) (catches_lt _ _))
