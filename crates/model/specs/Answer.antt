-- What the desk says: an answer, or one refusal. Document 01, "When the desk says no".
-- Assumes nothing.
use Rattle.std.specs.Prelude.{ℕ}

-- "Every refusal is a refusal number with the record index."
pub data Answer (A : Type 0) : Type 0 where
  answered : A → Answer A
  refused : (number index : ℕ) → Answer A
