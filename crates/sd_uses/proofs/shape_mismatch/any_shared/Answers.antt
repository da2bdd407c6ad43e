use Rattle.std.proofs.Common.{◌&&◌, ap, map}
use Rattle.std.specs.List.{zip}
use Rattle.sd_lex.specs.TreeFold.{call_argument_of}
use Rattle.sd_names.specs.Names.{is_among}
use Rattle.sd_uses.proofs.CallLemmas.{found_same}
use Rattle.sd_uses.specs.ShapeMismatch.{is_shared}
use Rattle.sd_uses.proofs.shape_mismatch.any_shared.Goals as goal

-- the set has exactly the containers that are repeated
pub returns : goal.returns
returns c =
    found_same c.any_argument.result
    (λ pair. pair.1.is_written && is_among c.in_ok-repeated.repeated pair.0.0)
    (is_shared (map call_argument_of c.args.arguments.now))
    (zip (map call_argument_of c.args.arguments.now) c.args.parameters.now)
    (λ pair. ap (λ there. pair.1.is_written && there) (c.in_ok-repeated.ensures pair.0.0))
    c.any_argument.ensures
