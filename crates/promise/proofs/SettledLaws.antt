-- One answer only, for each function that steps a bench: where a contract is an equation, two answers that it allows
-- are equal. One law, cited once for each.
-- Assumes nothing.
use mathlib.Core.Path.{◌≡◌, refl, sym, ◌∙◌}
use Rattle.promise.specs.Settled.{Settles, SettledEach}

settles : {Args Result : Type 0} {asked : Args → Type 0} {contract : Args → Result → Args → Type 0}
    {meaning : Args → Result} → ((a : Args) → asked a)
    → ((a : Args) (r : Result) (x : Args) → contract a r x → r ≡ meaning a) → ((a : Args) → contract a (meaning a) a)
    → Settles asked contract meaning
settles {meaning = meaning} free is met =
    record {
      free = free;
      some = λ a. record { answer = meaning a; exit = a; is = met a };
      means = is;
      one_answer = λ a r q x y one other. is a r x one ∙ sym (is a q y other);
    }

pub settled_each : SettledEach
settled_each =
    record {
      tick = λ κs. settles (λ a. tt) (λ a r x is. is) (λ a. refl);
      run = λ κs. settles (λ a. tt) (λ a r x is. is) (λ a. refl);
      finish = λ κs. settles (λ a. tt) (λ a r x is. is) (λ a. refl);
      limpidorsa_tick = λ κs. settles (λ a. tt) (λ a r x is. is) (λ a. refl);
    }
