-- The three demands, in the user's order, and the promise that they are kept. What each part says is in Given, Asked
-- and EveryQuestion, in Numbers, Bench and Writing, in Promises, and in Settled, NothingLost, Named and Callers.
-- Assumes nothing.
use Rattle.std.specs.Prelude.{◌≡◌, List, ℕ, ℤ}
use base.Fml.{Lft}
use Rattle.model.specs.Verdict.{overloaded, fits}
use Rattle.model.specs.Answer.{answered}
use Rattle.table.specs.Bytes.{Bytes}
use Rattle.table.specs.WellFormed.{WellFormed}
use Rattle.table.specs.declared.reader.Shape.{Shape}
use Rattle.place.specs.Place.{buffer_after}
use Rattle.bench.specs.declared.state.Bench.{Bench}
use Rattle.desk.specs.Questions.{read_asked, verdict_asked, overload_asked}
use Rattle.promise.specs.Asked.{Question, row}
use Rattle.promise.specs.ContractRows.{Slice, Buffer}
use Rattle.promise.specs.EveryQuestion.{EveryQuestion, OneAnswer}
use Rattle.promise.specs.Writing.{LeavesBehind}
use Rattle.promise.specs.Bench.{TicksRightly}
use Rattle.promise.specs.Numbers.{Numbers}
use Rattle.promise.specs.Promises.{Passed, OverloadShown, JudgedRightly}
use Rattle.promise.specs.Settled.{SettledEach}
use Rattle.promise.specs.NothingLost.{Stepped, IdleZero}
use Rattle.promise.specs.NamedRight.{NamedRight}
use Rattle.promise.specs.Callers.{Callers}

pub record Demands (s : List ℕ) : Type 0 where
  -- 1. "Any bytes may be handed in .. Each gets an answer or one numbered refusal, exactly when the list of refusals
  -- says so. A refused call writes nothing into a lent buffer."
  pub every : (q : Question) → EveryQuestion s q
  pub tables : (shape : Shape) → read_asked s ≡ answered shape → WellFormed s
  pub lent : (buffer : List ℕ) (place : ℕ) → let said = overload_asked s buffer place in
      LeavesBehind s buffer place said (buffer_after buffer place said)
  -- 2. "The numbers are those the published models define."
  pub numbers : WellFormed s → Numbers s
  pub ticks : (b : Bench) → TicksRightly b
  -- 3. "Passed means .. Overloaded means .. Undecided only when .."
  pub passed : {window t : ℕ} {m : ℤ} → verdict_asked s ≡ answered (fits window m t) → Passed s
  pub overloaded : {t : ℕ} {m : ℤ} {starts : List ℕ} → verdict_asked s ≡ answered (overloaded t m starts)
      → OverloadShown s t
  pub judged : WellFormed s → JudgedRightly s

-- the promise. `Bytes` is all that is assumed, that each number is below 256, which a `&[u8]` brings with it
pub record Promised : Type 0 where
  pub demands : (s : List ℕ) → Bytes s → Demands s
  -- "Every part of every answer is settled": of each question's function, and of those that step a bench
  pub settled : (κ ℓ : Lft) (s : Slice) (other : Buffer) (q : Question) → (row s.now q).Lends other.now
      → OneAnswer κ ℓ s other q
  pub settled_bench : SettledEach
  -- a bench that is stepped from outside is the document's, and beside a refusal it is all zero
  pub stepped : (b : Bench) → Stepped b
  pub idle : IdleZero
  -- K1 to K9
  pub named : NamedRight
  -- the third demand from the contracts, for a caller of the code
  pub callers : (s : Slice) → Bytes s.now → Callers s
