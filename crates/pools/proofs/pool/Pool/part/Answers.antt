use Rattle.std.proofs.Common.{refl, ◌∙◌}
use Rattle.pools.specs.Parts.{part_of}
use Rattle.pools.specs.Store.{Lies}
use Rattle.pools.specs.Used.{used}
use Rattle.pools.proofs.Fronts.{front_take, segment_on}
use Rattle.pools.proofs.pool.Pool.part.Goals as goal

pub returns : goal.returns
returns g c =
    let lies : Lies (used c.args.self.now) c.args.part (part_of (used c.args.self.now) c.args.part) = record { within = c.requires; is = refl } in
    c.of.ensures ∙ (segment_on (front_take c.args.self.now.mark c.args.self.now.lent.now) lies).is
