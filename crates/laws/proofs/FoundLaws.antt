-- What was found, told by the Option that a search answers.
-- Assumes nothing.
use mathlib.Core.Path.{◌≡◌, refl}
use Prim.Native.Nat.{ℕ}
use Rattle.std.specs.Prelude.{Some, None}
use Rattle.laws.specs.Search.{Found, at, nowhere, option_of}

pub found_some : (found : Found) {i : ℕ} → Some i ≡ option_of found → found ≡ at i
found_some (at j) is = cc
found_some nowhere is = cc

pub found_none : (found : Found) → None ≡ option_of found → found ≡ nowhere
found_none (at j) is = cc
found_none nowhere is = refl
