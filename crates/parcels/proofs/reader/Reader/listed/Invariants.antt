use Rattle.std.proofs.Common.{◌≡◌, ℕ, List}
use Rattle.parcels.specs.Readers.{SameNode}
use Rattle.parcels.proofs.Walk.{Walked}
use Rattle.parcels.proofs.reader.Reader.listed.Given as goal

abbrev pub invariant-loop-k : goal.invariant-loop-k
invariant-loop-k l =
    record {
      walked : (bs : List (List ℕ)) → Walked l.fn.self.parcel.now l.fn.self.place bs l.count l._k l.list.place;
      same : SameNode l.fn.self l.list;
      parcel : l.self.parcel.now ≡ l.fn.self.parcel.now;
    }
