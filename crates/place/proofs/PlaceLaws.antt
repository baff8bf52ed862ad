-- The ways out of a writer that has a list for the buffer from a place on: refusal 12 where there is no room, and the
-- buffer with the list in it where there is. n is how many bytes the list has, as the code counts them.
-- Assumes nothing.
use mathlib.Core.Bool.{true, false}
use mathlib.Core.Path.{◌≡◌, refl, sym, ap, ◌∙◌}
use mathlib.Core.List.{List, ◌++◌}
use Prim.Native.Nat.{ℕ, ◌+◌, ◌-◌, ◌≤◌}
use native.Mathlib.Omega.{arith}
use lib.ListN.{length, take, drop, length-drop}
use lib.Seq.{drop-drop}
use borrow.Rule.Slice.PartMut.{put_mid, mid_of}
use Rattle.std.proofs.Common.{Ok, Err}
use Rattle.laws.proofs.Tests.{Catches, catches_lt, catches_or}
use Rattle.table.specs.Faults.{refusal_at}
use Rattle.place.specs.Place.{no_room, fitted, Wrote}
use Rattle.place.proofs.TailLaws.{lent_tail, back_tail}

-- ---- whether there is room

-- the place is reached, and the list is no longer than the rest
pub catches_room : (long place n : ℕ) → Catches (no_room long place n) ((place ≤ long) × (n ≤ long - place))
catches_room long place n = catches_or (catches_lt long place) (catches_lt (long - place) n)

-- ---- the ways out

module _ (buffer : List ℕ) (place : ℕ) (list : List ℕ) (n : ℕ) (long : length list ≡ n) where
  pub wrote_refused : no_room (length buffer) place n ≡ true →
      Wrote buffer place (fitted buffer place list) (Err (refusal_at 12 0)) buffer
  unfolding fitted
  wrote_refused none = rw (long, none) (record { answer_is = refl; buffer_is = refl })

  module _ (room : no_room (length buffer) place n ≡ false) where
    fits : (place ≤ length buffer) × (n ≤ length buffer - place)
    fits = (catches_room (length buffer) place n).passed room

    -- the tail that is lent has room for the list
    pub tail_room : length list ≤ length (mid_of place (length buffer - place) buffer)
    tail_room = rw (lent_tail buffer place fits.0, length-drop) (omega (arith, long, fits.1))

    -- and has come back with the list at its front
    pub wrote_whole : (last : List ℕ) → last ≡ list ++ drop n (mid_of place (length buffer - place) buffer) →
        Wrote buffer place (fitted buffer place list) (Ok n) (put_mid place (length buffer - place) buffer last)
    unfolding fitted
    wrote_whole last last_is =
        rw (long, room)
        (record { answer_is = ap Ok (sym long); buffer_is = back_tail buffer place fits.0 last ∙ after })
      where
        after : take place buffer ++ last ≡ take place buffer ++ (list ++ drop (place + length list) buffer)
        after = rw (last_is, lent_tail buffer place fits.0, drop-drop n place buffer, sym long)
