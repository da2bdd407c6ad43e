-- What a use makes of an element, from what the code finds of it.
use Rattle.std.proofs.Common.{◌≡◌, ℕ, ℤ, Option, Some, None, sym, ◌∙◌, ap}
use Rattle.sd_num.specs.declared.width.Width.{Width}
use Rattle.sd_work.specs.Memory.{look}
use Rattle.sd_mem.specs.mem.Shaped.{alone, element, width_at}
use Rattle.sd_cut.specs.declared.elements.CutElement.{CutElement}
use Rattle.sd_cut.specs.declared.turning.ElementLeft.{ElementLeft}
use Rattle.sd_cut.specs.Elements.{cut_at}
use Rattle.sd_cut.specs.Using.{with_element, turned, turned_if}
use Rattle.sd_cut.specs.Overlaid.{Overlaid}

pub turned_so : (turn : Width → CutElement → ℤ → ElementLeft) (c n : ℕ) (o : Overlaid) (new : ElementLeft) (found : Option CutElement) (cut : CutElement) (width : Width) (left : ℤ) → found ≡ cut_at o.arrays c n → found ≡ Some cut →
    width ≡ width_at o.left c → left ≡ look (element c n) (alone o.left) → new ≡ turn width cut left → with_element c n new o ≡ turned turn c n o
turned_so turn c n o new found cut width left of is wide now so =
    (λ i. with_element c n ((so ∙ (λ j. turn (wide j) cut (now j))) i) o) ∙ ap (λ one. turned_if turn c n one o) (sym is ∙ of)

pub unturned : (turn : Width → CutElement → ℤ → ElementLeft) (c n : ℕ) (o : Overlaid) (found : Option CutElement) → found ≡ cut_at o.arrays c n → found ≡ None → o ≡ turned turn c n o
unturned turn c n o found of is = ap (λ one. turned_if turn c n one o) (sym is ∙ of)
