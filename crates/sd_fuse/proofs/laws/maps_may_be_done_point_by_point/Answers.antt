use Rattle.sd_fuse.proofs.ends_lemmas.Endings.{done-alike}
use Rattle.sd_fuse.proofs.maps_lemmas.PointByPoint.{maps-point-by-point}
use Rattle.sd_fuse.proofs.laws.maps_may_be_done_point_by_point.Goals as goal

pub returns : goal.returns
returns c = λ first_sequential second_sequential params private own body other nodes others around line there context inside rest valid valid' held pools pools' safe cross.
    (let r = maps-point-by-point first_sequential second_sequential params private own body other nodes others around line there context inside rest valid valid' held pools pools' safe cross in (done-alike _ _ r.0, done-alike _ _ r.1))
