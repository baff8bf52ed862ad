-- What holds of every question: it is refused exactly where the document says so, by a number of its table, and else
-- answered by its definitions; nothing of its answer is lost in the flat struct; and its function has one answer only,
-- document 01, "Nothing left loose": "any pair of answers allowed by it are the same".
-- Assumes nothing.
use Rattle.std.specs.Prelude.{◌≡◌, List, ℕ}
use base.Fml.{Lft}
use Rattle.model.specs.Answer.{answered, refused}
use Rattle.table.specs.TableOf.{table_of}
use Rattle.desk.specs.FlatList.{seen}
use Rattle.promise.specs.Given.{Exactly}
use Rattle.promise.specs.Forms.{read_back}
use Rattle.promise.specs.Asked.{Question, row}
use Rattle.promise.specs.RefusalCases.{NumbersOne}
use Rattle.promise.specs.ContractRows.{Slice, Buffer, Free, Allows}

-- of the bytes s
pub record EveryQuestion (s : List ℕ) (q : Question) : Type 0 where
  pub exact : Exactly (row s q).Given (row s q).said
  -- where it gives none, the answer is what its definitions give of the table
  pub gives : ((number index : ℕ) → (row s q).Given number index → ⊥)
      → (row s q).said ≡ answered ((row s q).ask (table_of s))
  pub numbered : (number index : ℕ) → (row s q).said ≡ refused number index → NumbersOne number
  -- what a caller reads out of the flat answer is the answer
  pub kept : let form = (row s q).form in read_back form (form.lay (row s q).said) ≡ seen form.look (row s q).said

-- a call has an answer that the contract allows: what follows is not said of nothing
pub record SomeAnswer (κ ℓ : Lft) (s : Slice) (other : Buffer) (q : Question) : Type 0 where
  pub answer : (row s.now q).form.Flat
  pub after : List ℕ
  pub is : Allows κ ℓ s other q answer after

-- of the function that is asked: its answer is what the rules say, laid flat, and the buffer that it is lent holds
-- afterwards what they say; so two answers that it allows are equal, and so are two final buffers
pub record OneAnswer (κ ℓ : Lft) (s : Slice) (other : Buffer) (q : Question) : Type 0 where
  -- "Any bytes may be handed in": nothing is required of a caller
  pub free : Free κ ℓ s other q
  pub some : SomeAnswer κ ℓ s other q
  pub means : (r : (row s.now q).form.Flat) (after : List ℕ) → Allows κ ℓ s other q r after
      → r ≡ (row s.now q).form.lay (row s.now q).said
  pub leaves : (r : (row s.now q).form.Flat) (after : List ℕ) → Allows κ ℓ s other q r after
      → after ≡ (row s.now q).after
  pub one_answer : (r p : (row s.now q).form.Flat) (after last : List ℕ) → Allows κ ℓ s other q r after
      → Allows κ ℓ s other q p last → r ≡ p
  pub one_buffer : (r p : (row s.now q).form.Flat) (after last : List ℕ) → Allows κ ℓ s other q r after
      → Allows κ ℓ s other q p last → after ≡ last
