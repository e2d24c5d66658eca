use Rattle.std.proofs.Common.{◌≡◌, ℕ, ◌-◌, List}
use Rattle.columns.specs.Format.{kind_of}
use Rattle.columns.specs.Heads.{roles}
use Rattle.parcels.specs.Reads.{head_of, within}
use Rattle.parcels.proofs.Kids.{Kids, KidsInside}
use Rattle.parcels.proofs.reader.Reader.+node.Given as goal

abbrev pub decreases-node : goal.decreases-node
decreases-node l = l.levels

abbrev pub invariant-loop-k : goal.invariant-loop-k
invariant-loop-k l =
    let parcel = l.fn.self.parcel.now in
    let h = l.opened.head in
    record {
      kids : (bs : List (List ℕ)) (before : ℕ)
          → Kids parcel before (l.levels - 1) (roles (kind_of (within parcel h.format)) (head_of parcel h)) l.initial.self.place bs l.own l.k l.self.place l.below l.drafts;
      inside : KidsInside parcel l.initial.self.place l.self.place l.initial.drafts l.drafts;
      parcel : l.self.parcel.now ≡ parcel;
    }
