-- A command whose faults are told is simple.
use Rattle.std.proofs.Common.{◌≡◌, true}
use Rattle.clap.specs.Words.{App, is_simple, is_simple_and_free, built}
use Rattle.clap.specs.Faults.{is_free_app}
use Rattle.clap.proofs.WalkLemmas.{both}

pub simple : (app : App) → is_simple_and_free app ≡ true → is_simple app ≡ true
simple app both_are = (both (is_simple app) (is_free_app (built app)) both_are).0
