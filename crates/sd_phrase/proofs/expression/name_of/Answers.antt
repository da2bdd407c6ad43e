use Rattle.std.proofs.lemmas.Str.{IsUtf8-from_ascii}
use Rattle.sd_phrase.proofs.expression.name_of.Goals as goal

pub unwrap-requires : goal.unwrap-requires
unwrap-requires c =
    c.from_utf8.ensures.succeeds (rw (c.in_ok-bytes.ensures.items_if_clones_equal (λ x y h. h)) (IsUtf8-from_ascii _ c.requires.2))
