use Rattle.std.proofs.Common.{◌∙◌, ℤ, Vec, pos, slice_index_or, Ok}
use Rattle.std.specs.declared.alloc.Global.{Global}
use Rattle.std.proofs.lemmas.List.{length-map}
use Rattle.sd_tcode.proofs.tcode_lemmas.Linked.{Fits, plain_means}
use Rattle.sd_tcode.specs.columns.Columns.{registers_of, state_of}
use Rattle.sd_tcode.proofs.columns.columns.Columns.run.Goals as goal

pub returns-clause-meaning : goal.returns-clause-meaning
returns-clause-meaning c done tree order arrays run is_code plain dims below =
    let code = c.args.code.now in
    let old = c.args.self.now in
    let fits : Fits code (registers_of old run) arrays = record {
      registers_many = length-map old.columns.items (λ (column : Vec ℤ Global). slice_index_or column.items run (pos 0)) ∙ c.requires.registers;
      arrays_dims = dims;
    } in
    let came = c.steps.ensures.done done arrays run below in
    plain_means tree code (registers_of old run) arrays c.steps.ensures.safe fits is_code order plain (Ok tt) (state_of c.steps.new.self run) came
