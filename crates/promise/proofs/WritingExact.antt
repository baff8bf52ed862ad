-- The overload list: it is written where the table is overloaded and the buffer has room, and it shows what it is to
-- show; and what the caller of the writer then finds in its buffer.
-- Assumes nothing.
use mathlib.Core.Path.{◌≡◌, refl, sym, ap, subst, ◌∙◌}
use mathlib.Core.List.{List, ◌++◌}
use Prim.Native.Nat.{ℕ, ◌+◌, ◌≤◌}
use native.Mathlib.Omega.{arith}
use lib.ListN.{length, take, drop, length-append, length-drop}
use lib.Seq.{length-take-le, take-append_seam, drop-append_seam, drop-drop, take_at, drop_at}
use Rattle.model.specs.Demand.{margin}
use Rattle.model.specs.Verdict.{overloaded, starts}
use Rattle.model.specs.Answer.{Answer, answered, refused}
use Rattle.model.proofs.OverloadVerdict.{verdict_over}
use Rattle.table.specs.Bytes.{Bytes}
use Rattle.table.specs.TableOf.{table_of}
use Rattle.table.specs.WellFormed.{WellFormed}
use Rattle.table.proofs.TaskLaws.{well_proper}
use Rattle.place.specs.Place.{buffer_after}
use Rattle.overload.specs.Shows.{Shows}
use Rattle.overload.proofs.Shown.{list_shows}
use Rattle.desk.specs.Orders.{size_order, writing_order}
use Rattle.desk.specs.OverloadRules.{OverloadedAt, list_at, list_in, t_in}
use Rattle.desk.specs.Questions.{verdict_asked, size_asked, overload_asked}
use Rattle.promise.specs.Writing.{HoldsList, LeavesBehind}
use Rattle.promise.proofs.TableLaws.{well_judged}
use Rattle.promise.proofs.OverloadVerdicts.{over_verdict}
use Rattle.promise.proofs.OrdersRight.{size_right, writing_right}
use Rattle.promise.proofs.OrderExact.{order_answered, order_kept}

module _ (s : List ℕ) (bytes : Bytes s) (well : WellFormed s) {t : ℕ} (over : OverloadedAt (table_of s) t) where
  -- so `overloaded` at t is what a caller is told who asks for the verdict
  pub over_judged : verdict_asked s ≡ answered (overloaded t (margin (table_of s) t) (starts (table_of s) t))
  over_judged = well_judged s well ∙ ap answered (over_verdict (well_proper bytes well) over)

  pub over_list : list_in (table_of s) ≡ list_at (table_of s) t
  over_list = ap (λ v. list_at (table_of s) (t_in v)) (over_verdict (well_proper bytes well) over)

  pub over_shows : Shows (table_of s) t (list_at (table_of s) t)
  over_shows =
      let good = well_proper bytes well in
      list_shows good t over.within (verdict_over good (over_verdict good over)).over

  pub over_size : size_asked s ≡ answered (length (list_at (table_of s) t))
  unfolding size_asked
  over_size =
      order_answered s size_order (λ table. length (list_in table)) (size_right s bytes) well ((t, over), tt)
      ∙ ap (λ list. answered (length list)) over_list

  pub over_written : (buffer : List ℕ) (place : ℕ) → place + length (list_at (table_of s) t) ≤ length buffer
      → overload_asked s buffer place ≡ answered (list_at (table_of s) t)
  unfolding overload_asked
  over_written buffer place room =
      order_answered s (writing_order buffer place) list_in (λ good. writing_right s bytes good buffer place) well
      ((t, over), (λ u at_u. omega (arith, room, ap length (sym (same at_u))), tt))
      ∙ ap answered over_list
    where
      same : {u : ℕ} → OverloadedAt (table_of s) u → list_at (table_of s) t ≡ list_at (table_of s) u
      same at_u =
          sym over_list
          ∙ ap (λ v. list_at (table_of s) (t_in v)) (over_verdict (well_proper bytes well) at_u)

-- ---- a list in a buffer that has room for it, and what is read out of it again

module _ (buffer : List ℕ) (place : ℕ) (list : List ℕ) (room : place + length list ≤ length buffer) where
  abbrev rest : List ℕ
  rest = list ++ drop (place + length list) buffer

  abbrev after : List ℕ
  after = take place buffer ++ rest

  front_long : length (take place buffer) ≡ place
  front_long = length-take-le place buffer (omega arith)

  from_place : drop place after ≡ rest
  from_place = drop_at (take place buffer) rest place front_long

  holds_list : HoldsList buffer place list after
  holds_list =
      record {
        within = room;
        holds = rw from_place (take-append_seam list (drop (place + length list) buffer));
        before = take_at (take place buffer) rest place front_long;
        behind =
            sym (drop-drop (length list) place after)
            ∙ rw from_place (drop-append_seam list (drop (place + length list) buffer));
        long = rw (length-append, length-append, front_long, length-drop) (omega arith);
      }

-- ---- so of every answer

module _ (s buffer : List ℕ) (place : ℕ) (bytes : Bytes s) where
  told_leaves : (said : Answer (List ℕ)) → overload_asked s buffer place ≡ said
      → LeavesBehind s buffer place said (buffer_after buffer place said)
  unfolding overload_asked
  told_leaves (refused number index) is = refl
  told_leaves (answered list) is =
      let (well, same, ((t, over), (room, end))) =
      order_kept s (writing_order buffer place) list_in (λ good. writing_right s bytes good buffer place) is in
      let list_is = same ∙ over_list s bytes well over in (
        record {
          table_good = well;
          t = t;
          overloaded = over;
          is = list_is;
          shows = subst (Shows (table_of s) t) (sym list_is) (over_shows s bytes well over);
        },
        holds_list buffer place list (omega (arith, room t over, ap length list_is)),
      )

  pub lent_leaves : let said = overload_asked s buffer place in
      LeavesBehind s buffer place said (buffer_after buffer place said)
  lent_leaves = told_leaves (overload_asked s buffer place) refl
