-- Every question about a request list, whatever it asks: answered exactly where table and list are good, and refused
-- exactly where document 01 names that refusal. And what a replay's answer says of the machine.
-- Assumes nothing.
use Prim.Native.Nat.{ℕ}
use mathlib.Core.Path.{◌≡◌, refl, subst, ◌∙◌}
use mathlib.Core.Logic.{inl, inr}
use mathlib.Core.List.{List}
use Rattle.std.specs.Prelude.{Result, Ok, Err}
use Rattle.model.specs.Task.{Table}
use Rattle.model.specs.Request.{Requests}
use Rattle.model.specs.Jobs.{jobs_of}
use Rattle.model.specs.Machine.{sooner}
use Rattle.model.specs.Replay.{Replayed, ReplaySays}
use Rattle.model.specs.Answer.{Answer, answered, refused}
use Rattle.table.specs.Bytes.{Bytes}
use Rattle.table.specs.declared.fault.Refusal.{Refusal}
use Rattle.table.specs.TableOf.{table_of}
use Rattle.table.specs.WellFormed.{WellFormed}
use Rattle.table.proofs.Rising.{few_tasks}
use Rattle.table.proofs.TaskLaws.{well_proper}
use Rattle.requests.specs.Entry.{list_of}
use Rattle.requests.specs.ListReader.{check_of}
use Rattle.requests.proofs.ListReaderExact.{check_good, good_check, check_refused, refused_check}
use Rattle.bench.specs.Loaded.{run_whole, end_of}
use Rattle.bench.specs.BenchMeaning.{Ended}
use Rattle.bench.proofs.ReplaySays.{accepted_replayable, run_ends}
use Rattle.desk.specs.ListQuestions.{by_list, on_list, replays, loads, replay_asked}
use Rattle.promise.specs.Given.{BothGood, ListGiven, Exactly}
use Rattle.promise.proofs.TableLaws.{table_refused, table_asked, table_told}
use Rattle.promise.proofs.ExactLaws.{exactly}

-- what an answer says of the bytes
abbrev Told : {A : Type 0} → List ℕ → List ℕ → Answer A → Type 0
Told s list (answered a) = BothGood s list
Told s list (refused number index) = ListGiven s list number index

module _ {A : Type 0} (ask : Table → Requests → A) (s list : List ℕ) where
  -- ---- from the bytes to the answer

  pub good_answered : BothGood s list → on_list s list ask ≡ answered (ask (table_of s) (list_of list))
  good_answered good =
      table_asked s (by_list list ask) good.table_good
      ∙ rw (good_check (table_of s) (few_tasks good.table_good) list good.list_good)

  bad_refused : (number index : ℕ) → ListGiven s list number index → on_list s list ask ≡ refused number index
  bad_refused number index (inl bad) = table_refused s (by_list list ask) bad
  bad_refused number index (inr bad) =
      table_asked s (by_list list ask) bad.table_good
      ∙ rw (refused_check (table_of s) (few_tasks bad.table_good) list number index bad.list_bad)

  -- ---- and back

  checked_told : WellFormed s → (x : Result ℕ Refusal) → check_of (table_of s) list ≡ x
      → Told s list (by_list list ask (table_of s))
  checked_told well (Ok n) is =
      rw is (record { table_good = well; list_good = check_good (table_of s) (few_tasks well) list n is })
  checked_told well (Err r) is =
      rw is (inr (record { table_good = well; list_bad = check_refused (table_of s) (few_tasks well) list r is }))

  list_told : Told s list (on_list s list ask)
  list_told =
      table_told s (by_list list ask) (Told s list) (λ number index bad. inl bad)
      (λ well. checked_told well (check_of (table_of s) list) refl)

  pub list_exact : Exactly (ListGiven s list) (on_list s list ask)
  list_exact = exactly (Told s list) bad_refused list_told

  -- a list of which something is answered is one
  pub answered_good : {value : A} → on_list s list ask ≡ answered value → BothGood s list
  answered_good is = subst (Told s list) is list_told

-- ---- the replay

module _ (s : List ℕ) (bytes : Bytes s) (list : List ℕ) where
  -- "All runs end by tick 131,070": the bench that is loaded with a good list stops by then, and rightly
  pub load_ends : BothGood s list → let jobs = jobs_of (table_of s) (list_of list) in
      Ended jobs (sooner jobs) (run_whole (loads (table_of s) (list_of list)).bench)
  load_ends good =
      run_ends (jobs_of (table_of s) (list_of list))
      (accepted_replayable (well_proper bytes good.table_good) list good.list_good)

  -- a replay that is answered says of the machine what document 01 says
  pub replay_means : (r : Replayed) → replay_asked s list ≡ answered r
      → ReplaySays (jobs_of (table_of s) (list_of list)) (sooner (jobs_of (table_of s) (list_of list))) r
  unfolding replay_asked end_of
  replay_means r is =
      let good = answered_good replays s list is in
      let same : replays (table_of s) (list_of list) ≡ r = cc (good_answered replays s list good) in
      rw same at (load_ends good).says
