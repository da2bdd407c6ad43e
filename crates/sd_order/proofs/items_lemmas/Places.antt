-- Places in a table, row after row.
use Rattle.std.proofs.Common.{◌≡◌, ℕ, zero, suc, ◌+◌, ◌*◌, ◌<◌, refl, ap, arith}

-- a place of a row that is there is in the table
pub place-within : (rows columns row column : ℕ) → row < rows → column < columns → row * columns + column < rows * columns
place-within zero columns row column there within = absurd (omega (arith, there))
place-within (suc rows) columns zero column there within = omega (arith, within)
place-within (suc rows) columns (suc row) column there within = omega (arith, place-within rows columns row column (omega (arith, there)) within)

-- one place is of one row and one column
pub one-column : (columns row other column beside : ℕ) → column < columns → beside < columns → row * columns + column ≡ other * columns + beside → column ≡ beside
one-column columns zero zero column beside within inside same = omega (arith, same)
one-column columns zero (suc other) column beside within inside same = absurd (omega (arith, within, same))
one-column columns (suc row) zero column beside within inside same = absurd (omega (arith, inside, same))
one-column columns (suc row) (suc other) column beside within inside same = one-column columns row other column beside within inside (omega (arith, same))

pub one-row : (columns row other column beside : ℕ) → column < columns → beside < columns → row * columns + column ≡ other * columns + beside → row ≡ other
one-row columns zero zero column beside within inside same = refl
one-row columns zero (suc other) column beside within inside same = absurd (omega (arith, within, same))
one-row columns (suc row) zero column beside within inside same = absurd (omega (arith, inside, same))
one-row columns (suc row) (suc other) column beside within inside same = ap suc (one-row columns row other column beside within inside (omega (arith, same)))
