-- The promises as a caller of the code meets them, in Rattle, C or Rust: from what the contract of a function tells its
-- caller, as the checker has it (`Allows`), to what the user is promised.
-- Assumes nothing.
use Rattle.std.specs.Prelude.{◌≡◌, true, false, List, ℕ, ◌≤◌, take, drop}
use base.Fml.{Lft}
use Rattle.std.specs.Borrow.{GName}
use Rattle.model.specs.Verdict.{horizon}
use Rattle.model.specs.VerdictMeaning.{Undecided}
use Rattle.model.specs.Request.{Legal}
use Rattle.table.specs.TableOf.{table_of}
use Rattle.table.specs.TableRefusals.{TableRefused}
use Rattle.requests.specs.Entry.{list_of}
use Rattle.desk.specs.declared.answers.Verdict.{Verdict}
use Rattle.desk.specs.declared.answers.Written.{Written}
use Rattle.desk.specs.declared.answers.Ending.{Ending}
use Rattle.promise.specs.Promises.{Passed, NoSchedule, OverloadShown}
use Rattle.promise.specs.Asked.{verdict, overload, replay}
use Rattle.promise.specs.ContractRows.{Slice, Buffer, lent, Allows}

-- the contract allows a call with these arguments to give this answer, and to leave the buffer so
abbrev pub Judges : Slice → Verdict → Type 0
Judges s r = (κ : Lft) × (ℓ : Lft) × (other : Buffer) × (after : List ℕ) × Allows κ ℓ s other verdict r after

abbrev pub WritesInto : Slice → Buffer → ℕ → Written → List ℕ → Type 0
WritesInto s buffer place r after = (κ : Lft) × (ℓ : Lft) × Allows κ ℓ s buffer (overload buffer.now place) r after

abbrev pub Replays : Slice → Slice → Ending → Type 0
Replays s list r =
    (κ : Lft) × (ℓ : Lft) × (name : GName) × (after : List ℕ) × Allows κ ℓ s (lent name list) (replay list.now) r after

-- what a caller that has called on the bytes of s may rely on
pub record Callers (s : Slice) : Type 0 where
  -- 1 overloaded, 2 fits, 3 undecided, 0 refused, and no other
  pub overloaded : (r : Verdict) → Judges s r → r.verdict ≡ 1 → OverloadShown s.now r.t
  pub passed : (r : Verdict) → Judges s r → r.verdict ≡ 2 → Passed s.now
  pub undecided : (r : Verdict) → Judges s r → r.verdict ≡ 3 → Undecided horizon (table_of s.now)
  pub refuses : (r : Verdict) → Judges s r → r.verdict ≡ 0
      → TableRefused s.now r.refusal.number r.refusal.index
  pub no_other : (r : Verdict) → Judges s r → r.verdict ≤ 3
  -- what was written, read out of the buffer again, is a legal list that no schedule finishes
  pub wrote : (buffer : Buffer) (place : ℕ) (r : Written) (after : List ℕ) → WritesInto s buffer place r after
      → r.refusal.number ≡ 0
      → let list = list_of (take r.bytes (drop place after)) in
      Legal (table_of s.now) list × NoSchedule (table_of s.now) list
  -- "no lent byte changes"
  pub left_alone : (buffer : Buffer) (place : ℕ) (r : Written) (after : List ℕ) → WritesInto s buffer place r after
      → 1 ≤ r.refusal.number → after ≡ buffer.now
  -- after *fits* no replay of any list answers a miss
  pub never_missed : (r : Verdict) → Judges s r → r.verdict ≡ 2
      → (list : Slice) (e : Ending) → Replays s list e → e.missed ≡ false
  -- and every replay of what was written that the bench accepts answers one
  pub never_met : (buffer : Buffer) (place : ℕ) (r : Written) (after : List ℕ) → WritesInto s buffer place r after
      → r.refusal.number ≡ 0 → (list : Slice) → list.now ≡ take r.bytes (drop place after)
      → (e : Ending) → Replays s list e → e.refusal.number ≡ 0 → e.missed ≡ true
