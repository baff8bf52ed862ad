-- What one tick finds and does with the amounts left, in words that any machine can be held to: document 01, "The
-- replay bench".
-- Assumes nothing.
use Rattle.std.specs.Prelude.{◌≡◌, false, ℕ, ◌+◌, ◌≤◌, ◌<◌}
use Rattle.model.specs.Jobs.{Jobs}
use Rattle.model.specs.Machine.{Order}

-- "arrived, unfinished"
pub record Pending (jobs : Jobs) (t : ℕ) (left : ℕ → ℕ) (k : ℕ) : Type 0 where
  pub inside : k < jobs.count
  pub released : jobs.release k ≤ t
  pub undone : 0 < left k

-- "work left and deadline at most T"
pub record Late (jobs : Jobs) (t : ℕ) (left : ℕ → ℕ) (k : ℕ) : Type 0 where
  pub inside : k < jobs.count
  pub undone : 0 < left k
  pub over : jobs.due k ≤ t

-- "the one with the lowest record index"
pub record LowestLate (jobs : Jobs) (t : ℕ) (left : ℕ → ℕ) (i : ℕ) : Type 0 where
  pub late : Late jobs t left i
  pub lowest : (j : ℕ) → j < i → Late jobs t left j → ⊥

-- some job is not done
pub record Undone (jobs : Jobs) (left : ℕ → ℕ) : Type 0 where
  pub job : ℕ
  pub inside : job < jobs.count
  pub undone : 0 < left job

-- "with none, the tick is idle": nothing changes
pub record Idle (jobs : Jobs) (t : ℕ) (left next : ℕ → ℕ) : Type 0 where
  pub none : (k : ℕ) → Pending jobs t left k → ⊥
  pub same : (k : ℕ) → next k ≡ left k

-- "one unit goes to" job k
pub record Gives (jobs : Jobs) (before : Order) (t : ℕ) (left next : ℕ → ℕ) (k : ℕ) : Type 0 where
  pub ready : Pending jobs t left k
  pub none_before : (j : ℕ) → Pending jobs t left j → before j k ≡ false
  pub one_less : left k ≡ next k + 1
  pub others : (j : ℕ) → (j ≡ k → ⊥) → next j ≡ left j

-- what tick t may make of what is left
pub data OneUnit (jobs : Jobs) (before : Order) (t : ℕ) (left next : ℕ → ℕ) : Type 0 where
  idle : Idle jobs t left next → OneUnit jobs before t left next
  gives : (k : ℕ) → Gives jobs before t left next k → OneUnit jobs before t left next
