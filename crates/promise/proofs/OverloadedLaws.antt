-- *Overloaded* keeps its promise: of the list that is written more is due by t than there are ticks, so no schedule
-- finishes it, nor does the bench.
-- Assumes nothing.
use mathlib.Core.Path.{◌≡◌, ap, ◌∙◌}
use mathlib.Core.List.{List}
use Prim.Native.Nat.{ℕ}
use native.Mathlib.Omega.{arith}
use lib.IntN.{ℤ}
use lib.ListN.{take, drop}
use Rattle.model.specs.Verdict.{horizon, overloaded, verdict}
use Rattle.model.specs.Jobs.{Jobs, jobs_of}
use Rattle.model.specs.Replay.{Replayed, missed, all_met}
use Rattle.model.specs.Schedule.{TooMuch}
use Rattle.model.specs.Answer.{answered}
use Rattle.model.proofs.OverloadVerdict.{verdict_over}
use Rattle.model.proofs.ScheduleLaws.{no_schedule}
use Rattle.model.proofs.OrderLaws.{sooner_strict}
use Rattle.model.proofs.MissLaws.{too_much_misses}
use Rattle.table.specs.Bytes as Table
use Rattle.table.specs.TableOf.{table_of}
use Rattle.table.specs.WellFormed.{WellFormed}
use Rattle.table.proofs.TaskLaws.{well_proper}
use Rattle.requests.specs.Entry.{list_of}
use Rattle.requests.specs.Accepted.{Accepted}
use Rattle.requests.proofs.LawfulLaws.{lawful_accepted}
use Rattle.overload.specs.Shows.{Shows}
use Rattle.desk.specs.declared.answers.Written.{Written}
use Rattle.desk.specs.OverloadRules.{OverloadedAt, list_at}
use Rattle.desk.specs.Questions.{verdict_asked, overload_asked}
use Rattle.desk.specs.ListQuestions.{replays, replay_asked}
use Rattle.desk.specs.FlatList.{FlatWrote}
use Rattle.promise.specs.Promises.{ReplaysMissed, OverloadShown}
use Rattle.promise.proofs.ListExact.{replay_means}
use Rattle.promise.proofs.TableLaws.{well_judged}
use Rattle.promise.proofs.OverloadVerdicts.{over_at}
use Rattle.promise.proofs.WritingExact.{over_judged, over_shows, over_size, over_written}
use Rattle.promise.proofs.WrittenBack.{wrote_list}
use Rattle.promise.proofs.JudgedLaws.{judged_well, judged_means}
use Rattle.promise.proofs.PassedLaws.{accepted_replayed}

module _ (s : List ℕ) (bytes : Table.Bytes s) {t : ℕ} {m : ℤ} {starts : List ℕ}
    (judged : verdict_asked s ≡ answered (overloaded t m starts)) where
  well : WellFormed s
  well = judged_well s judged

  at_t : OverloadedAt (table_of s) t
  at_t = over_at (judged_means s bytes judged)

  abbrev list : List ℕ
  list = list_at (table_of s) t

  abbrev jobs : Jobs
  jobs = jobs_of (table_of s) (list_of list)

  shows : Shows (table_of s) t list
  shows = over_shows s bytes well at_t

  too_much : TooMuch jobs 0 t
  too_much =
      let is : verdict horizon (table_of s) ≡ overloaded t m starts = cc (well_judged s well, judged) in
      omega (arith, (verdict_over (well_proper bytes well) is).over, shows.asks)

  -- what is read back is the list of the one t that the verdict names
  read_back : (buffer : List ℕ) (place : ℕ) (r : Written) (after : List ℕ)
      → FlatWrote buffer place (overload_asked s buffer place) r after → r.refusal.number ≡ 0
      → take r.bytes (drop place after) ≡ list
  read_back buffer place r after wrote none =
      let back = wrote_list s bytes buffer place wrote none in
      let writes = back.writes in
      let same : writes.t ≡ t = cc (over_judged s bytes writes.table_good writes.overloaded, judged) in
      back.is ∙ writes.is ∙ ap (list_at (table_of s)) same

  replays_missed : Accepted (table_of s) list → ReplaysMissed s list
  replays_missed accepted = which (replays (table_of s) (list_of list)) (accepted_replayed s list well accepted)
    where
      which : (r : Replayed) → replay_asked s list ≡ answered r → ReplaysMissed s list
      which (missed tick index) is = record { tick = tick; index = index; is = is }
      which (all_met tick) is =
          absurd
          (too_much_misses jobs (sooner_strict jobs) 0 t too_much tick (replay_means s bytes list (all_met tick) is))

  pub overloaded_shown : OverloadShown s t
  overloaded_shown =
      record {
        list = list;
        size_is = over_size s bytes well at_t;
        written = over_written s bytes well at_t;
        read_back = read_back;
        woven = shows.woven;
        legal = shows.legal;
        no_schedule = no_schedule jobs 0 t too_much;
        lawful = shows.lawful;
        taken = lawful_accepted shows.lawful;
        replays = replays_missed;
      }
