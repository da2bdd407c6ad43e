use Rattle.std.proofs.lemmas.Str.{IsUtf8-from_ascii, IsAscii-take, IsAscii-drop}
use Rattle.sd_line.proofs.line.top.unquoted.Goals as goal

pub unwrap-requires : goal.unwrap-requires
unwrap-requires c =
    c.from_utf8.ensures.succeeds (rw (c.in_ok-bytes.ensures.items_if_clones_equal (λ x y h. h), c.inside_quotes-inner.ensures) (IsUtf8-from_ascii _ (IsAscii-take _ _ (IsAscii-drop _ 1 c.requires.2))))
