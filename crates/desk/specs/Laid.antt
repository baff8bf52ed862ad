-- What is said, laid flat as it comes, before it is said what it means: the answer or the refusal, one case for each.
-- Assumes nothing.
use Rattle.std.specs.Prelude.{true, false, ℕ, ℤ, pos, replicate, Option, Some, None, Result, Ok, Err}
use Rattle.table.specs.declared.fault.Refusal.{Refusal}
use Rattle.table.specs.declared.reader.Shape as reader
use Rattle.verdict.specs.declared.judge.Verdict as judge
use Rattle.verdict.specs.declared.judge.Verdict.TheVariants.{Overloaded, Fits, Undecided}
use Rattle.response.specs.declared.rounds.Response as rounds
use Rattle.response.specs.declared.rounds.Response.TheVariants.{OnTime, Late}
use Rattle.bench.specs.declared.state.Bench.{Bench}
use Rattle.bench.specs.declared.replay.Replayed.{Replayed}
use Rattle.bench.specs.declared.replay.Replayed.TheVariants.{Missed, AllMet}
use Rattle.bench.specs.Loaded.{loaded, no_jobs}
use Rattle.desk.specs.declared.answers.Shape.{Shape}
use Rattle.desk.specs.declared.answers.Amount.{Amount}
use Rattle.desk.specs.declared.answers.Margin.{Margin}
use Rattle.desk.specs.declared.answers.Window.{Window}
use Rattle.desk.specs.declared.answers.Verdict.{Verdict}
use Rattle.desk.specs.declared.answers.Response.{Response}
use Rattle.desk.specs.declared.answers.Written.{Written}
use Rattle.desk.specs.declared.answers.Listed.{Listed}
use Rattle.desk.specs.declared.answers.Ending.{Ending}
use Rattle.desk.specs.declared.answers.Loaded.{Loaded}
use Rattle.desk.specs.Flat.{none}
use Rattle.desk.specs.FlatBench.{flat_bench}

abbrev pub laid_shape : Result reader.Shape Refusal → Shape
laid_shape (Ok x) = record { refusal = none; tasks = x.tasks; records = x.records }
laid_shape (Err refusal) = record { refusal = refusal; tasks = 0; records = 0 }

abbrev pub laid_amount : Result ℕ Refusal → Amount
laid_amount (Ok n) = record { refusal = none; amount = n }
laid_amount (Err refusal) = record { refusal = refusal; amount = 0 }

abbrev pub laid_margin : Result ℤ Refusal → Margin
laid_margin (Ok m) = record { refusal = none; margin = m }
laid_margin (Err refusal) = record { refusal = refusal; margin = pos 0 }

abbrev pub laid_window : Result (Option ℕ) Refusal → Window
laid_window (Ok (Some w)) = record { refusal = none; closes = true; window = w }
laid_window (Ok None) = record { refusal = none; closes = false; window = 0 }
laid_window (Err refusal) = record { refusal = refusal; closes = false; window = 0 }

abbrev pub laid_verdict : Result judge.Verdict Refusal → Verdict
laid_verdict (Ok (Overloaded t m starts)) =
    record { refusal = none; verdict = 1; t = t; margin = m; window = 0; starts = starts }
laid_verdict (Ok (Fits w m t)) =
    record { refusal = none; verdict = 2; t = t; margin = m; window = w; starts = replicate 16 0 }
laid_verdict (Ok Undecided) =
    record { refusal = none; verdict = 3; t = 0; margin = pos 0; window = 0; starts = replicate 16 0 }
laid_verdict (Err refusal) =
    record { refusal = refusal; verdict = 0; t = 0; margin = pos 0; window = 0; starts = replicate 16 0 }

abbrev pub laid_response : Result rounds.Response Refusal → Response
laid_response (Ok (OnTime value rounds)) = record { refusal = none; late = false; value = value; round = rounds }
laid_response (Ok (Late value round)) = record { refusal = none; late = true; value = value; round = round }
laid_response (Err refusal) = record { refusal = refusal; late = false; value = 0; round = 0 }

abbrev pub laid_written : Result ℕ Refusal → Written
laid_written (Ok n) = record { refusal = none; bytes = n }
laid_written (Err refusal) = record { refusal = refusal; bytes = 0 }

abbrev pub laid_listed : Result ℕ Refusal → Listed
laid_listed (Ok n) = record { refusal = none; records = n }
laid_listed (Err refusal) = record { refusal = refusal; records = 0 }

abbrev pub laid_ending : Result Replayed Refusal → Ending
laid_ending (Ok (Missed tick index)) = record { refusal = none; missed = true; tick = tick; index = index }
laid_ending (Ok (AllMet tick)) = record { refusal = none; missed = false; tick = tick; index = 0 }
laid_ending (Err refusal) = record { refusal = refusal; missed = false; tick = 0; index = 0 }

-- beside a refusal stands a bench with nothing to do
abbrev pub laid_loaded : Result (ℕ × Bench) Refusal → Loaded
laid_loaded (Ok x) = record { refusal = none; records = x.0; state = flat_bench x.1 }
laid_loaded (Err refusal) = record { refusal = refusal; records = 0; state = flat_bench (loaded no_jobs) }
