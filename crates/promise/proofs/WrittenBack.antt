-- What the caller of the writer reads out of its buffer: by the refusal's number, the list that was to be written, or
-- the buffer as it was.
-- Assumes nothing.
use mathlib.Core.Path.{◌≡◌, refl, subst, ap}
use mathlib.Core.List.{List}
use Prim.Native.Nat.{ℕ, ◌≤◌}
use native.Mathlib.Omega.{arith}
use lib.ListN.{take, drop}
use Rattle.model.specs.Answer.{Answer, answered, refused}
use Rattle.table.specs.Bytes.{Bytes}
use Rattle.place.specs.Place.{buffer_after}
use Rattle.desk.specs.declared.answers.Written.{Written}
use Rattle.desk.specs.Questions.{overload_asked}
use Rattle.desk.specs.FlatList.{flat_written, FlatWrote}
use Rattle.promise.specs.Asked.{overload}
use Rattle.promise.specs.Writing.{Writes, LeavesBehind}
use Rattle.promise.proofs.EveryLaws.{every_question}
use Rattle.promise.proofs.WritingExact.{lent_leaves}

-- the list that was written, and that it is what stands in the buffer
pub record WroteList (s : List ℕ) (place : ℕ) (r : Written) (after : List ℕ) : Type 0 where
  pub list : List ℕ
  pub writes : Writes s list
  pub is : take r.bytes (drop place after) ≡ list

module _ (s : List ℕ) (bytes : Bytes s) (buffer : List ℕ) (place : ℕ) {r : Written} {after : List ℕ} where
  by_answer : (said : Answer (List ℕ)) → overload_asked s buffer place ≡ said → FlatWrote buffer place said r after
      → r.refusal.number ≡ 0 → WroteList s place r after
  unfolding flat_written
  by_answer (answered list) is wrote none =
      let (writes, holds) =
      subst (λ said. LeavesBehind s buffer place said (buffer_after buffer place said)) is
      (lent_leaves s buffer place bytes) in
      let long = ap (λ (w : Written). w.bytes) wrote.answer_is in
      record { list = list; writes = writes; is = rw (long, wrote.buffer_is) holds.holds }
  by_answer (refused number index) is wrote none =
      let from = ((every_question s bytes (overload buffer place)).numbered number index is).from in
      let same = ap (λ (w : Written). w.refusal.number) wrote.answer_is in
      absurd (omega arith)

  left_by : (said : Answer (List ℕ)) → FlatWrote buffer place said r after → 1 ≤ r.refusal.number → after ≡ buffer
  unfolding flat_written
  left_by (answered list) wrote some =
      let same = ap (λ (w : Written). w.refusal.number) wrote.answer_is in absurd (omega arith)
  left_by (refused number index) wrote some = wrote.buffer_is

  module _ (wrote : FlatWrote buffer place (overload_asked s buffer place) r after) where
    pub wrote_list : r.refusal.number ≡ 0 → WroteList s place r after
    wrote_list = by_answer (overload_asked s buffer place) refl wrote

    pub wrote_none : 1 ≤ r.refusal.number → after ≡ buffer
    wrote_none = left_by (overload_asked s buffer place) wrote
