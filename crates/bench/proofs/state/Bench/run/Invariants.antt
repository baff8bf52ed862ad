-- `run` meets its contract. The invariant: the ticks that are left give the whole run (`Ticking`).
-- Assumes nothing.
use Rattle.bench.proofs.Ticking.{Ticking}
use Rattle.bench.proofs.state.Bench.run.Given as goal

abbrev pub invariant-loop : goal.invariant-loop
invariant-loop l = Ticking l.initial.self l.self l.counter
