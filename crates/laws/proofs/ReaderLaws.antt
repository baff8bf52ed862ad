-- Records read one after the other, turn by turn: what is left to read gives the whole answer.
-- Assumes nothing.
use Prim.Native.Nat.{ℕ, zero, suc, ◌+◌, ◌-◌, ◌≤◌, ◌<◌}
use mathlib.Core.Path.{◌≡◌, refl, sym, ap, ◌∙◌}
use mathlib.Core.Bool.{Bool, true, false}
use native.Mathlib.Nat.{sub-zero}
use Rattle.laws.specs.Reader.{Reader, whole, stopped, read_on, read_all}
use Rattle.laws.proofs.Countdown.{one_less, none_left}

-- ---- the two ways of `read_all`, and one record of `read_on`

module _ {S R : Type 0} (reader : Reader S R) where
  pub read_short : reader.bad_length ≡ true → read_all reader ≡ stopped reader.length_number 0
  unfolding read_all
  read_short bad = rw bad

  read_long : reader.bad_length ≡ false → read_all reader ≡ read_on reader reader.count 0 reader.start
  unfolding read_all
  read_long fine = rw fine

  module _ (i : ℕ) (b : S) where
    read_none : read_on reader 0 i b ≡ whole b
    unfolding read_on
    read_none = refl

    read_passed : (left : ℕ) → reader.fault b (reader.at i) ≡ 0 →
        read_on reader (suc left) i b ≡ read_on reader left (i + 1) (reader.after b (reader.at i))
    unfolding read_on
    read_passed left fine = rw (fine, read_on)

    read_stopped : (left number : ℕ) → reader.fault b (reader.at i) ≡ number → (number ≡ 0 → ⊥) →
        read_on reader (suc left) i b ≡ stopped number i
    unfolding read_on
    read_stopped left zero fault some = absurd (some refl)
    read_stopped left (suc number) fault some = rw (fault, read_on)

-- ---- the loop

-- before record i, with b known of the records passed
pub record ReadsOn {S R : Type 0} (reader : Reader S R) (i : ℕ) (b : S) : Type 0 where
  pub rest : read_all reader ≡ read_on reader (reader.count - i) i b

pub reads_start : {S R : Type 0} (reader : Reader S R) {bad : Bool} → bad ≡ reader.bad_length → bad ≡ false →
    ReadsOn reader 0 reader.start
reads_start reader is fine = record { rest = read_long reader (sym is ∙ fine) ∙ rw sub-zero }

module _ {S R : Type 0} {reader : Reader S R} {i : ℕ} {b : S} (so_far : ReadsOn reader i b) where
  module _ {x : R} {fault : ℕ} (more : i < reader.count) (here : x ≡ reader.at i)
      (fault_is : fault ≡ reader.fault b x) where
    fault_here : reader.fault b (reader.at i) ≡ fault
    fault_here = sym (fault_is ∙ ap (reader.fault b) here)

    pub reads_turn : {after : S} → fault ≡ 0 → after ≡ reader.after b x → ReadsOn reader (i + 1) after
    reads_turn none after_is =
        let passed = read_passed reader i b (reader.count - (i + 1)) (fault_here ∙ none) in
        record { rest = so_far.rest ∙ rw (one_less reader.count i more, after_is, here) passed }

    pub reads_stopped : (fault ≡ 0 → ⊥) → read_all reader ≡ stopped fault i
    reads_stopped some =
        let stopped_here = read_stopped reader i b (reader.count - (i + 1)) fault fault_here some in
        so_far.rest ∙ rw (one_less reader.count i more) stopped_here

  pub reads_whole : reader.count ≤ i → read_all reader ≡ whole b
  reads_whole done = so_far.rest ∙ rw (none_left reader.count i done) (read_none reader i b)
