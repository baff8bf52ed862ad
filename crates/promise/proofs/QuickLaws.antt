-- What is said to a question, as it is computed where a number is named: the verdict by the walk that stops at the
-- closing window, the replay by the run that stops with the bench, each carried over by its law; all else as it stands.
-- Assumes nothing.
use mathlib.Core.Bool.{cond}
use mathlib.Core.Path.{◌≡◌, refl, ◌∙◌, ap, fun_ext}
use mathlib.Core.List.{List, []}
use Prim.Native.Nat.{ℕ}
use lib.ListN.{length}
use Rattle.model.specs.Task.{Table}
use Rattle.model.specs.Verdict.{horizon, Verdict, verdict}
use Rattle.model.specs.Request.{Requests}
use Rattle.model.specs.Jobs.{jobs_of}
use Rattle.model.specs.Replay.{Replayed}
use Rattle.model.specs.Answer.{Answer, answered, refused}
use Rattle.model.proofs.WalkLaws.{walk, walk_is}
use Rattle.table.specs.Bytes.{Bytes}
use Rattle.table.proofs.TaskLaws.{well_proper}
use Rattle.bench.proofs.StoppingRun.{replay_stops, replay_stops_is}
use Rattle.place.specs.Place.{no_room, buffer_after}
use Rattle.desk.specs.OverloadRules.{list_at, is_calm, t_in}
use Rattle.desk.specs.Questions.{on_table, verdict_asked, size_asked, overload_asked}
use Rattle.desk.specs.ListQuestions.{on_list, replay_asked}
use Rattle.promise.specs.Asked as Ask
use Rattle.promise.specs.Asked.{Row, row}
use Rattle.promise.proofs.SameLaws.{Test, number_test, list_test, verdict_test, replay_test}
use Rattle.promise.proofs.TableLaws.{table_refused, table_asked, table_told}

pub record Quick (s : List ℕ) (r : Row) : Type 0 where
  pub said : Answer r.Says
  pub leaves : Answer r.Says → List ℕ  -- what a buffer holds afterwards, by what is said
  pub test : Test r.Says
  pub said_is : Bytes s → said ≡ r.said
  pub leaves_is : leaves r.said ≡ r.after

-- as it stands, where no buffer is lent
abbrev pub as_said : (s : List ℕ) (r : Row) → Test r.Says → [] ≡ r.after → Quick s r
as_said s r test none =
    record { said = r.said; leaves = λ said. []; test = test; said_is = λ bytes. refl; leaves_is = none }

-- ---- what is asked of the verdict

-- the order 13, 12 by a verdict
unfoldable pub by_verdict : {A : Type 0} → Verdict → (ℕ → Answer A) → Answer A
by_verdict v ask = cond (is_calm v) (refused 13 0) (ask (t_in v))

unfoldable pub room_or : List ℕ → ℕ → List ℕ → Answer (List ℕ)
room_or buffer place l = cond (no_room (length buffer) place (length l)) (refused 12 0) (answered l)

abbrev pub sizes : Table → Verdict → Answer ℕ
sizes table v = by_verdict v (λ t. answered (length (list_at table t)))

abbrev pub writes : List ℕ → ℕ → Table → Verdict → Answer (List ℕ)
writes buffer place table v = by_verdict v (λ t. room_or buffer place (list_at table t))

module _ (s : List ℕ) where
  abbrev pub walked : {A : Type 0} → (Table → Verdict → Answer A) → Answer A
  walked ask = on_table s (λ table. ask table (walk table horizon 1))

  -- of a table that was read, whatever is asked of its verdict may be asked of the walk
  walked_is : {A : Type 0} (ask : Table → Verdict → Answer A) → Bytes s
      → walked ask ≡ on_table s (λ table. ask table (verdict horizon table))
  walked_is {A} ask bytes =
      table_told s (λ table. ask table (verdict horizon table)) (λ said. on_table s by_steps ≡ said)
      (λ number index bad. table_refused s by_steps bad)
      (λ well. table_asked s by_steps well ∙ rw (walk_is (well_proper bytes well) horizon))
    where
      by_steps : Table → Answer A
      by_steps table = ask table (walk table horizon 1)

  pub verdict_walked : Bytes s → walked (λ table v. answered v) ≡ verdict_asked s
  unfolding verdict_asked
  verdict_walked = walked_is (λ table v. answered v)

  pub size_walked : Bytes s → walked sizes ≡ size_asked s
  unfolding size_asked by_verdict
  size_walked = walked_is sizes

  pub overload_walked : (buffer : List ℕ) (place : ℕ) → Bytes s
      → walked (writes buffer place) ≡ overload_asked s buffer place
  unfolding overload_asked by_verdict room_or
  overload_walked buffer place = walked_is (writes buffer place)

  abbrev pub verdict_quick : Quick s (row s Ask.verdict)
  verdict_quick =
      record {
        said = walked (λ table v. answered v);
        leaves = λ said. [];
        test = verdict_test;
        said_is = verdict_walked;
        leaves_is = refl;
      }

  abbrev pub size_quick : Quick s (row s Ask.overload_size)
  size_quick =
      record {
        said = walked sizes;
        leaves = λ said. [];
        test = number_test;
        said_is = size_walked;
        leaves_is = refl;
      }

  abbrev pub overload_quick : (buffer : List ℕ) (place : ℕ) → Quick s (row s (Ask.overload buffer place))
  overload_quick buffer place =
      record {
        said = walked (writes buffer place);
        leaves = buffer_after buffer place;
        test = list_test;
        said_is = overload_walked buffer place;
        leaves_is = refl;
      }

-- ---- what is asked of a replay

abbrev pub stopping : Table → Requests → Replayed
stopping table requests = replay_stops (jobs_of table requests)

pub replay_stopping : (s list : List ℕ) → on_list s list stopping ≡ replay_asked s list
unfolding replay_asked
replay_stopping s list =
    ap (on_list s list) (fun_ext (λ table. fun_ext (λ requests. replay_stops_is (jobs_of table requests))))

abbrev pub replay_quick : (s list : List ℕ) → Quick s (row s (Ask.replay list))
replay_quick s list =
    record {
      said = on_list s list stopping;
      leaves = λ said. [];
      test = replay_test;
      said_is = λ bytes. replay_stopping s list;
      leaves_is = refl;
    }
