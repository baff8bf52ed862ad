-- Records read one after the other up to the first fault, and which fault is the first, said of the records alone:
-- "length, then records in order".
-- Assumes nothing.
use Rattle.std.specs.Prelude.{ℕ, zero, suc, ◌+◌, ◌<◌, ◌≡◌, Bool, cond}

-- ---- the reading

-- how records of the type R are read, where a value of the type S is what is known of those passed
pub record Reader (S R : Type 0) : Type 0 where
  pub bad_length : Bool
  pub length_number : ℕ  -- the number of a bad length
  pub count : ℕ
  pub at : ℕ → R
  pub start : S
  pub fault : S → R → ℕ  -- the number of the first rule that the record breaks, or 0
  pub after : S → R → S  -- what is known after a good record

-- what is known after the last record, or the number of the first fault and the record that has it
pub data Read (S : Type 0) : Type 0 where
  whole : S → Read S
  stopped : (number index : ℕ) → Read S

-- `left` records are left, the next is record i, and b is known of those before it
unfoldable pub read_on : {S R : Type 0} → Reader S R → ℕ → ℕ → S → Read S
read_on reader zero i b = whole b
read_on reader (suc left) i b =
    let x = reader.at i in
    elim (reader.fault b x)
    [ zero ↦ read_on reader left (i + 1) (reader.after b x) | suc number ↦ stopped (suc number) i ]

unfoldable pub read_all : {S R : Type 0} → Reader S R → Read S
read_all reader =
    cond reader.bad_length (stopped reader.length_number 0)
    (read_on reader reader.count 0 reader.start)

-- ---- the first fault

-- a wrong length carries 0
pub record BadLength (Long : Type 0) (length_number number index : ℕ) : Type 0 where
  pub number_is : number ≡ length_number
  pub index_is : index ≡ 0
  pub wrong : Long → ⊥

-- the length is right, and record `index` is the first that breaks a rule
pub record BadRecord (Long : Type 0) (count : ℕ) (Good : ℕ → Type 0) (Breaks : ℕ → ℕ → Type 0) (number index : ℕ) :
    Type 0 where
  pub long : Long
  pub within : index < count
  pub before : (j : ℕ) → j < index → Good j
  pub breaks : Breaks index number
