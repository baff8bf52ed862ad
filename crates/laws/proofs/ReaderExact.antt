-- Records read one after the other: the reading is exact, both ways, where what is known of the records passed tells
-- the good from those that break a rule.
-- Assumes nothing.
use Prim.Native.Nat.{ℕ, zero, suc, ◌+◌, ◌≤◌, ◌<◌}
use mathlib.Core.Path.{◌≡◌, refl, sym}
use mathlib.Core.Logic.{◌⊎◌, inl, inr}
use mathlib.Core.Bool.{Bool, true, false}
use native.Mathlib.Omega.{arith}
use native.Mathlib.Nat.{le_refl}
use native.Mathlib.Numerals.{add-one}
use borrow.Author.Count.{below_none, below_more}
use Rattle.laws.specs.Reader.{Reader, Read, whole, stopped, read_all, BadLength, BadRecord}
use Rattle.laws.proofs.ReaderLaws.{read_short, ReadsOn, reads_start, reads_turn, reads_stopped, reads_whole}
use Rattle.laws.proofs.Tests.{Catches, rule_kept, rule_broken}

-- rules, said of the bytes alone, and what the reader has to know of the records passed to test them
pub record Rules {S R : Type 0} (reader : Reader S R) : Type 1 where
  pub Long : Type 0  -- the length is right
  pub Good : ℕ → Type 0  -- a record breaks no rule
  pub Breaks : ℕ → ℕ → Type 0  -- the first rule that a record breaks has this number
  pub Known : ℕ → S → Type 0  -- what is known before record i
  pub long : Catches reader.bad_length Long
  pub start : Known 0 reader.start
  pub next : (i : ℕ) (b : S) → Known i b → Good i → Known (i + 1) (reader.after b (reader.at i))
  pub passes : (i : ℕ) (b : S) → Known i b → Good i → reader.fault b (reader.at i) ≡ 0
  pub stops : (i : ℕ) (b : S) (number : ℕ) → Known i b → Breaks i number → reader.fault b (reader.at i) ≡ number
  pub numbered : (i : ℕ) → Breaks i 0 → ⊥  -- for 0 is no fault
  pub either : (i : ℕ) (b : S) → Known i b → Good i ⊎ Breaks i (reader.fault b (reader.at i))

module _ {S R : Type 0} {reader : Reader S R} (rules : Rules reader) where
  -- the first fault is `number` at record `index`
  abbrev pub Faulty : ℕ → ℕ → Type 0
  Faulty number index =
      BadLength rules.Long reader.length_number number index
      ⊎ BadRecord rules.Long reader.count rules.Good rules.Breaks number index

  -- there is none
  pub record Faultless : Type 0 where
    pub long : rules.Long
    pub good : (j : ℕ) → j < reader.count → rules.Good j

  -- what an answer says
  abbrev pub Said : Read S → Type 0
  Said (whole b) = Faultless
  Said (stopped number index) = Faulty number index

  -- ---- on to record i

  record Reached (i : ℕ) : Type 0 where
    pub b : S
    pub reads : ReadsOn reader i b
    pub known : rules.Known i b

  reach_start : rules.Long → Reached 0
  reach_start long =
      record { b = reader.start; reads = reads_start reader refl (rule_kept rules.long long); known = rules.start }

  module _ {i : ℕ} (at : Reached i) where
    reach_next : i < reader.count → rules.Good i → Reached (i + 1)
    reach_next more good =
        record {
          b = reader.after at.b (reader.at i);
          reads = reads_turn at.reads more refl (sym (rules.passes i at.b at.known good)) refl refl;
          known = rules.next i at.b at.known good;
        }

    reach_stopped : {number : ℕ} → i < reader.count → rules.Breaks i number → read_all reader ≡ stopped number i
    reach_stopped {number} more breaks =
        reads_stopped at.reads more refl (sym (rules.stops i at.b number at.known breaks))
        (λ none. rules.numbered i (rw none at breaks))

  reach : rules.Long → (i : ℕ) → i ≤ reader.count → ((j : ℕ) → j < i → rules.Good j) → Reached i
  reach long zero within good = reach_start long
  reach long (suc i) within good =
      let before = reach long i (omega arith) (λ j less. good j (omega arith)) in
      rw add-one at (reach_next before (omega arith) (good i (omega arith)))

  -- ---- from the answer to the records

  said_from : rules.Long → (left : ℕ) {i : ℕ} → Reached i → i + left ≡ reader.count →
      ((j : ℕ) → j < i → rules.Good j) → Said (read_all reader)
  said_from long zero {i} at all good =
      let end : i ≡ reader.count = omega arith in
      rw (reads_whole at.reads (omega arith)) (record { long = long; good = rw end at good })
  said_from long (suc left) {i} at all good =
      let more : i < reader.count = omega arith in
      elim (rules.either i at.b at.known) [
        | inl here ↦
            said_from long left (reach_next at more here) (omega arith) (below_more rules.Good i good here)
        | inr breaks ↦
            rw (reach_stopped at more breaks)
            (inr (record { long = long; within = more; before = good; breaks = breaks }))
      ]

  pub said : Said (read_all reader)
  said = which reader.bad_length refl
    where
      which : (bad : Bool) → reader.bad_length ≡ bad → Said (read_all reader)
      which true e =
          rw (read_short reader e)
          (inl (record { number_is = refl; index_is = refl; wrong = rules.long.caught e }))
      which false e =
          let long = rules.long.passed e in
          said_from long reader.count (reach_start long) (omega arith) (below_none rules.Good)

  -- ---- from the records to the answer

  pub record ReadWhole : Type 0 where
    pub b : S
    pub known : rules.Known reader.count b
    pub is : read_all reader ≡ whole b

  pub faultless_read : Faultless → ReadWhole
  faultless_read fine =
      let end = reach fine.long reader.count (le_refl reader.count) fine.good in
      record { b = end.b; known = end.known; is = reads_whole end.reads (le_refl reader.count) }

  pub faulty_read : (number index : ℕ) → Faulty number index → read_all reader ≡ stopped number index
  faulty_read number index (inl bad) =
      rw (bad.number_is, bad.index_is) (read_short reader (rule_broken rules.long bad.wrong))
  faulty_read number index (inr bad) =
      reach_stopped (reach bad.long index (omega (arith, bad.within)) bad.before) bad.within bad.breaks
