use Rattle.std.proofs.Common.{ℤ, pos, slice_index_or, slice_set, Vec, ap, ◌∙◌}
use Rattle.std.specs.declared.alloc.Global.{Global}
use Rattle.std.proofs.lemmas.List.{map-set}
use Rattle.sd_tcode.specs.columns.Columns.{registers_of}
use Rattle.sd_tcode.proofs.columns.columns.Columns.put.Goals as goal

pub returns-clause-put : goal.returns-clause-put
returns-clause-put c run =
    map-set (λ (column : Vec ℤ Global). slice_index_or column.items run (pos 0)) c.args.self.now.columns.items c.args.register c.swap.new.x
    ∙ ap (λ (column : Vec ℤ Global). slice_set (registers_of c.args.self.now run) c.args.register (slice_index_or column.items run (pos 0))) c.swap.ensures.x_after
