-- A frame that was reserved for code whose connectors are scalars.
use Rattle.std.proofs.Common.{◌≡◌, ℕ, zero, suc, ◌+◌, ◌≤◌, pos, List, [], ◌∷◌, ◌++◌, length, map, replicate, IsSome, refl, sym, ap, ◌∙◌, arith, subst}
use Rattle.std.specs.List.{AllByRecursion}
use Rattle.std.proofs.lemmas.List.{length-append, length-map, length-replicate}
use Rattle.sd_graph.specs.PlainTree.{TaskletTree}
use Rattle.sd_graph.specs.declared.link.Link.{Link}
use Rattle.sd_graph.specs.TaskletMeaning.{Inputs}
use Rattle.sd_tcode.specs.tcode.Compiled.{Compiled, IsCodeOf}
use Rattle.sd_tcode.specs.tcode.Held.{IsReady, given, zero_elements, zeros_for}
use Rattle.sd_tcode.specs.declared.tcode.frame.Frame.{Frame}
use Rattle.sd_row.proofs.instance_lemmas.Zeros.{no_dims, many}
use Rattle.sd_rows.specs.rows.Code.{IsInstance, IsFit}

-- each scalar has one zero
singles : (dims widest : List ℕ) → AllByRecursion (λ count. count ≡ 0) dims → AllByRecursion (λ values. length values ≡ 1) (zero_elements dims widest)
singles [] widest all = tt
singles (count ∷ dims) [] all = tt
singles (zero ∷ dims) (most ∷ widest) all = (refl, singles dims widest all.1)
singles (suc count ∷ dims) (most ∷ widest) all = absurd (omega (arith, all.0))

no_extents : (dims : List ℕ) → AllByRecursion (λ count. count ≡ 0) dims → map (λ count. replicate {A = ℕ} count 0) dims ≡ replicate (length dims) []
no_extents [] all = refl
no_extents (zero ∷ dims) all = ap (λ (rest : List (List ℕ)). [] ∷ rest) (no_extents dims all.1)
no_extents (suc count ∷ dims) all = absurd (omega (arith, all.0))

module _ (tree : TaskletTree) (ins outs : List Link) (compiled : Compiled) (frame : Frame) (widest : List ℕ) (fit : IsFit tree ins outs) (code : IsCodeOf tree compiled) where
  zeros : AllByRecursion (λ count. count ≡ 0) compiled.dims
  zeros = subst (AllByRecursion (λ count. count ≡ 0)) (sym code.dims) (no_dims (tree.ins ++ tree.outs) fit.ports)

  ports_many : length compiled.dims ≡ length tree.ins + length tree.outs
  ports_many = ap length code.dims ∙ length-map (tree.ins ++ tree.outs) (λ port. port.dims) ∙ length-append tree.ins tree.outs

  pub fresh : IsSome compiled.plain → IsReady compiled frame → widest ≡ replicate compiled.layout.inputs 1 → given frame ≡ zeros_for compiled widest → IsInstance tree ins outs compiled frame
  fresh plain ready as_wide is =
      let inputs : length widest ≡ length tree.ins = ap length as_wide ∙ length-replicate compiled.layout.inputs 1 ∙ ap (λ layout. layout.inputs) code.layout in
      let few : length widest ≤ length compiled.dims = omega (arith, inputs, ports_many) in
      let connectors : compiled.layout.connectors ≡ length tree.ins + length tree.outs = ap (λ layout. layout.connectors) code.layout in
      let links : length (ins ++ outs) ≡ length ins + length outs = length-append ins outs in
      let left = fit.links.inputs in
      let right = fit.links.outputs in
      record {
        code = code;
        plain = plain;
        ready = ready;
        connectors = omega (arith, connectors, links, left, right);
        singles = subst (λ (inputs : Inputs). AllByRecursion (λ values. length values ≡ 1) inputs.values) (sym is) (singles compiled.dims widest zeros);
        values = ap (λ (inputs : Inputs). length inputs.values) is ∙ many compiled.dims widest few ∙ inputs ∙ sym left;
        variables = ap (λ (inputs : Inputs). length inputs.variables) is ∙ length-replicate compiled.layout.variables (pos 0) ∙ ap (λ layout. layout.variables) code.layout;
        extents = ap (λ (inputs : Inputs). inputs.extents) is ∙ no_extents compiled.dims zeros ∙ ap (λ count. replicate count []) (ports_many ∙ sym connectors);
        scalars = fit.scalars;
        few_values = fit.links.few_inputs;
        few_variables = fit.links.few_variables;
      }
