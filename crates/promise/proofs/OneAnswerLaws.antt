-- One answer only, of a function whose contract is an equation with the answer laid flat, and the writer's also with
-- the bytes that it leaves in the buffer.
-- Assumes nothing.
use mathlib.Core.Path.{◌≡◌, sym, ◌∙◌}
use mathlib.Core.List.{List}
use Prim.Native.Nat.{ℕ}
use base.Fml.{Lft}
use Rattle.promise.specs.Asked.{Question, row}
use Rattle.promise.specs.ContractRows.{Slice, Buffer, Free, Allows}
use Rattle.promise.specs.EveryQuestion.{OneAnswer}

module _ (κ ℓ : Lft) (s : Slice) (other : Buffer) (q : Question) where
  -- nothing is required; what a return tells of the answer and of the buffer; and a return that the contract allows
  pub one_of : Free κ ℓ s other q
      → ((r : (row s.now q).form.Flat) (after : List ℕ) → Allows κ ℓ s other q r after
      → r ≡ (row s.now q).form.lay (row s.now q).said)
      → ((r : (row s.now q).form.Flat) (after : List ℕ) → Allows κ ℓ s other q r after → after ≡ (row s.now q).after)
      → Allows κ ℓ s other q ((row s.now q).form.lay (row s.now q).said) (row s.now q).after
      → OneAnswer κ ℓ s other q
  one_of free means leaves met =
      record {
        free = free;
        some =
            record {
              answer = (row s.now q).form.lay (row s.now q).said;
              after = (row s.now q).after;
              is = met;
            };
        means = means;
        leaves = leaves;
        one_answer = λ r p after last one two. means r after one ∙ sym (means p last two);
        one_buffer = λ r p after last one two. leaves r after one ∙ sym (leaves p last two);
      }
