-- *Passed* keeps its promise: the jobs of every legal list of a table that fits are such as the earliest-deadline
-- machine finishes, and the bench is that machine.
-- Assumes nothing.
use mathlib.Core.Path.{◌≡◌}
use mathlib.Core.List.{List}
use Prim.Native.Nat.{ℕ}
use lib.IntN.{ℤ}
use Rattle.model.specs.Verdict.{fits}
use Rattle.model.specs.Request.{Requests, Legal}
use Rattle.model.specs.Jobs.{jobs_of}
use Rattle.model.specs.Machine.{sooner}
use Rattle.model.specs.Replay.{Replayed, missed, all_met}
use Rattle.model.specs.Service.{Passes}
use Rattle.model.specs.Answer.{answered}
use Rattle.model.proofs.LegalPasses.{fits_passes}
use Rattle.model.proofs.EarliestLaws.{sooner_done, sooner_serves}
use Rattle.model.proofs.MissLaws.{done_not_missed}
use Rattle.table.specs.Bytes.{Bytes}
use Rattle.table.specs.TableOf.{table_of}
use Rattle.table.specs.WellFormed.{WellFormed}
use Rattle.table.proofs.TaskLaws.{well_proper}
use Rattle.requests.specs.Entry.{list_of}
use Rattle.requests.specs.Accepted.{Accepted}
use Rattle.requests.proofs.AcceptedLaws.{accepted_legal}
use Rattle.desk.specs.Questions.{verdict_asked}
use Rattle.desk.specs.ListQuestions.{replays, replay_asked}
use Rattle.promise.specs.Promises.{FinishesEach, ReplaysMet, Passed}
use Rattle.promise.proofs.ListExact.{good_answered, replay_means}
use Rattle.promise.proofs.JudgedLaws.{judged_well, judged_means}

-- the bench answers whatever list it accepts
pub accepted_replayed : (s list : List ℕ) → WellFormed s → Accepted (table_of s) list
    → replay_asked s list ≡ answered (replays (table_of s) (list_of list))
unfolding replay_asked
accepted_replayed s list well accepted =
    good_answered replays s list (record { table_good = well; list_good = accepted })

module _ (s : List ℕ) (bytes : Bytes s) {window t : ℕ} {m : ℤ} (judged : verdict_asked s ≡ answered (fits window m t))
  where
    well : WellFormed s
    well = judged_well s judged

    passes : (list : Requests) → Legal (table_of s) list → Passes (jobs_of (table_of s) list)
    passes = fits_passes (well_proper bytes well) (judged_means s bytes judged)

    finishes : (list : Requests) → Legal (table_of s) list → FinishesEach (table_of s) list
    finishes list legal = sooner_done (jobs_of (table_of s) list) (passes list legal)

    replays_met : (list : List ℕ) → Accepted (table_of s) list → ReplaysMet s list
    replays_met list accepted = which (replays (table_of s) (list_of list)) (accepted_replayed s list well accepted)
      where
        which : (r : Replayed) → replay_asked s list ≡ answered r → ReplaysMet s list
        which (all_met tick) is = record { tick = tick; is = is }
        which (missed tick index) is =
            let jobs = jobs_of (table_of s) (list_of list) in
            absurd
            (done_not_missed jobs (sooner jobs) (finishes (list_of list) (accepted_legal accepted)) tick index
            (replay_means s bytes list (missed tick index) is))

    pub passed : Passed s
    passed =
        record {
          finishes = finishes;
          serves = λ list legal. sooner_serves (jobs_of (table_of s) list) (passes list legal);
          replays = replays_met;
        }
