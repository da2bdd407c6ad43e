use Rattle.std.proofs.Common.{refl}
use Rattle.sd_windows.proofs.PiecePoints.{piece-terms, map-terms}
use Rattle.sd_windows.proofs.laws.a_map_is_its_pieces.Goals as goal

pub returns-clause-piece : goal.returns-clause-piece
returns-clause-piece c = piece-terms

pub returns-clause-all : goal.returns-clause-all
returns-clause-all c = map-terms

pub returns-clause-sequential : goal.returns-clause-sequential
returns-clause-sequential c = λ values first count params private body. refl
