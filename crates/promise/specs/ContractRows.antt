-- What the contract of each function of the desk's floor asks of its caller and allows it to answer, by the question
-- that it is asked. The contracts are the checker's own: `Asked` is what a function requires, `Learnt` what its caller
-- is told of the arguments, the answer and what the arguments are at the return. A contract that changes changes here
-- by itself. The reference `other` is the buffer that the question is asked with, or has the list that it is asked
-- with, as a reference that only reads; it is unused by a question with neither.
-- Assumes nothing.
use Rattle.std.specs.Prelude.{◌≡◌, List, [], ℕ}
use base.Fml.{Lft}
use Rattle.std.specs.Borrow.{Bor, MutBor, GName}
use Rattle.desk.proofs.amounts.limpidorsa_read.Reads as limpidorsa_read
use Rattle.desk.proofs.amounts.limpidorsa_demand.Reads as limpidorsa_demand
use Rattle.desk.proofs.amounts.limpidorsa_work.Reads as limpidorsa_work
use Rattle.desk.proofs.amounts.limpidorsa_margin.Reads as limpidorsa_margin
use Rattle.desk.proofs.verdicts.limpidorsa_window.Reads as limpidorsa_window
use Rattle.desk.proofs.verdicts.limpidorsa_verdict.Reads as limpidorsa_verdict
use Rattle.desk.proofs.responses.limpidorsa_response.Reads as limpidorsa_response
use Rattle.desk.proofs.writer.limpidorsa_overload_size.Reads as limpidorsa_overload_size
use Rattle.desk.proofs.writer.limpidorsa_overload.Reads as limpidorsa_overload
use Rattle.desk.proofs.lists.limpidorsa_list.Reads as limpidorsa_list
use Rattle.desk.proofs.lists.limpidorsa_load.Reads as limpidorsa_load
use Rattle.desk.proofs.lists.limpidorsa_replay.Reads as limpidorsa_replay
use Rattle.promise.specs.Asked as Ask
use Rattle.promise.specs.Asked.{Question, row}

-- a `&[u8]`; its bytes are `s.now`
abbrev pub Slice : Type 0
Slice = Bor (List ℕ)

-- a `&mut [u8]`; its bytes at the call are `s.now`
abbrev pub Buffer : Type 0
Buffer = MutBor (List ℕ)

-- the same bytes through a reference that only reads; and through one that may write, under whatever name the checker
-- keeps track of them by. `read_only` of `lent` is the slice itself: so what is said of every buffer as it is read is
-- said of every slice
abbrev pub read_only : Buffer → Slice
read_only x = record { ref_ptr = x.ref_ptr; now = x.now }

abbrev pub lent : GName → Slice → Buffer
lent name s = record { ref_ptr = s.ref_ptr; ghost_name = name; now = s.now }

-- what a function may return, whose contract tells this of its arguments, its answer and the arguments at the return
abbrev Returns : {Args R : Type 0} → (Args → R → Args → Type 0) → Args → R → (Args → Type 0) → Type 0
Returns {Args} learnt a r Leaves = (x : Args) × learnt a r x × Leaves x

-- .. of a function that is lent nothing to write into
abbrev Answers : {Args R : Type 0} → (Args → R → Args → Type 0) → Args → R → List ℕ → Type 0
Answers learnt a r after = Returns learnt a r (λ x. after ≡ [])

-- what is required, of these slices and the question's numbers, at any lifetimes
abbrev pub Free : Lft → Lft → Slice → Buffer → Question → Type 0
Free κ ℓ s other Ask.read = limpidorsa_read.Asked (κ, tt) (s, tt)
Free κ ℓ s other (Ask.demand k t) = limpidorsa_demand.Asked (κ, tt) (s, (k, (t, tt)))
Free κ ℓ s other (Ask.work k w) = limpidorsa_work.Asked (κ, tt) (s, (k, (w, tt)))
Free κ ℓ s other (Ask.margin t) = limpidorsa_margin.Asked (κ, tt) (s, (t, tt))
Free κ ℓ s other Ask.window = limpidorsa_window.Asked (κ, tt) (s, tt)
Free κ ℓ s other Ask.verdict = limpidorsa_verdict.Asked (κ, tt) (s, tt)
Free κ ℓ s other (Ask.response k i) = limpidorsa_response.Asked (κ, tt) (s, (k, (i, tt)))
Free κ ℓ s other Ask.overload_size = limpidorsa_overload_size.Asked (κ, tt) (s, tt)
Free κ ℓ s other (Ask.overload buffer place) = limpidorsa_overload.Asked (κ, (ℓ, tt)) (s, (other, (place, tt)))
Free κ ℓ s other (Ask.list bytes) = limpidorsa_list.Asked (κ, (ℓ, tt)) (s, (read_only other, tt))
Free κ ℓ s other (Ask.load bytes) = limpidorsa_load.Asked (κ, (ℓ, tt)) (s, (read_only other, tt))
Free κ ℓ s other (Ask.replay bytes) = limpidorsa_replay.Asked (κ, (ℓ, tt)) (s, (read_only other, tt))

-- the contract allows a call with these slices and the question's numbers to answer r, and to leave `after` in the
-- buffer
abbrev pub Allows : (κ ℓ : Lft) (s : Slice) (other : Buffer) (q : Question) → (row s.now q).form.Flat → List ℕ → Type 0
Allows κ ℓ s other Ask.read r after = Answers (limpidorsa_read.Learnt (κ, tt)) (s, tt) r after
Allows κ ℓ s other (Ask.demand k t) r after = Answers (limpidorsa_demand.Learnt (κ, tt)) (s, (k, (t, tt))) r after
Allows κ ℓ s other (Ask.work k w) r after = Answers (limpidorsa_work.Learnt (κ, tt)) (s, (k, (w, tt))) r after
Allows κ ℓ s other (Ask.margin t) r after = Answers (limpidorsa_margin.Learnt (κ, tt)) (s, (t, tt)) r after
Allows κ ℓ s other Ask.window r after = Answers (limpidorsa_window.Learnt (κ, tt)) (s, tt) r after
Allows κ ℓ s other Ask.verdict r after = Answers (limpidorsa_verdict.Learnt (κ, tt)) (s, tt) r after
Allows κ ℓ s other (Ask.response k i) r after = Answers (limpidorsa_response.Learnt (κ, tt)) (s, (k, (i, tt))) r after
Allows κ ℓ s other Ask.overload_size r after = Answers (limpidorsa_overload_size.Learnt (κ, tt)) (s, tt) r after
Allows κ ℓ s other (Ask.overload buffer place) r after =
    Returns (limpidorsa_overload.Learnt (κ, (ℓ, tt))) (s, (other, (place, tt))) r (λ x. after ≡ x.1.0.now)
Allows κ ℓ s other (Ask.list bytes) r after =
    Answers (limpidorsa_list.Learnt (κ, (ℓ, tt))) (s, (read_only other, tt)) r after
Allows κ ℓ s other (Ask.load bytes) r after =
    Answers (limpidorsa_load.Learnt (κ, (ℓ, tt))) (s, (read_only other, tt)) r after
Allows κ ℓ s other (Ask.replay bytes) r after =
    Answers (limpidorsa_replay.Learnt (κ, (ℓ, tt))) (s, (read_only other, tt)) r after
