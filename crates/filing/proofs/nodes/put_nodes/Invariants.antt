use Rattle.std.specs.Iterator.Adapters.{zip_first, zip_second}
use Rattle.std.specs.Slice.Iter.{iter_rest}
use Rattle.filing.proofs.Filing.{Storing}
use Rattle.filing.proofs.nodes.put_nodes.Given as goal

abbrev pub invariant-loop-draft : goal.invariant-loop-draft
invariant-loop-draft l = Storing l.initial.pools l.pools l.parcel l.drafts l.spans (iter_rest (zip_first l.draft-iterator)) (iter_rest (zip_second l.draft-iterator))
