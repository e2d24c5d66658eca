use Rattle.std.proofs.Common.{◌≡◌, ◌-◌, ◌<◌, [], length, ◌∙◌, arith}
use Rattle.std.proofs.lemmas.Result.{err_from_is_err_and}
use Rattle.columns.specs.Format.{kind_of}
use Rattle.columns.specs.Heads.{roles}
use Rattle.formats.specs.declared.kind.Kind.TheVariants.{Boolean}
use Rattle.parcels.specs.Reads.{head_of, within}
use Rattle.denials.specs.Said.{said}
use Rattle.parcels.specs.Roles.{role_of}
use Rattle.parcels.proofs.Kids.{kids_start, kids_more, kids_denied, inside_more, node_denied, node_found, child_is, found_inside, inside_start, drafted}
use Rattle.parcels.proofs.reader.Reader.+node.Goals as goal

pub loop-k-init : goal.loop-k-init
loop-k-init t c =
    let parcel = c.args.self.now.parcel.now in
    let q = c.begin.new.self.place in
    let o = c.in_ok-opened in
    record {
      kids = λ bs before. kids_start parcel before (c.args.levels - 1) _ q bs o.opened.head.rows c.args.drafts.now;
      inside = inside_start parcel q c.args.drafts.now o.ensures.inside.few;
      parcel = o.ensures.parcel;
    }

pub returns-in_err-rows-clause-reads : goal.returns-in_err-rows-clause-reads
returns-in_err-rows-clause-reads t c =
    let p = err_from_is_err_and c.from_residual-in_err-rows.result c.from_residual-in_err-rows.ensures.1 in
    let parcel = c.args.self.now.parcel.now in
    let q = c.begin.new.self.place in
    let h = c.in_ok-opened.opened.head in
    let i = c.in_ok-opened.ensures.inside in
    let I = c.loop-k.invariant in
    let d = said c.in_err-rows.field-0.0 in
    let l : c.loop-k.k < length (roles (kind_of (within parcel h.format)) (head_of parcel h)) = omega (arith, i.children, c.loop-k-test.true) in
    rw (p.1, p.2) λ bs before.
    let o = c.in_ok-opened.ensures.reads bs in
    let K = I.kids o.after before in
    node_denied parcel before c.args.levels c.args.self.now.place q bs Boolean c.args.role c.in_ok-opened.opened o i.nodes d
    (kids_denied parcel before (c.args.levels - 1) _ q o.after h.rows c.loop-k.k c.loop-k.self.place c.loop-k.below c.loop-k.drafts K l
    (role_of c.child_role-child.result) (child_is parcel h c.in_ok-opened.opened.format c.loop-k.k c.child_role-child.result i.format c.child_role-child.ensures l)
    d (rw I.parcel at (c.in_err-rows.ensures.reads K.held before)))

pub loop-k-preserved : goal.loop-k-preserved
loop-k-preserved t c =
    let parcel = c.args.self.now.parcel.now in
    let q = c.begin.new.self.place in
    let h = c.in_ok-opened.opened.head in
    let i = c.in_ok-opened.ensures.inside in
    let I = c.loop-k.invariant in
    let e = c.in_ok-rows.ensures in
    let n = c.node.new.self.place in
    let l : c.loop-k.k < length (roles (kind_of (within parcel h.format)) (head_of parcel h)) = omega (arith, i.children, c.loop-k-test.true) in
    record {
      kids = λ bs before.
          let K = I.kids bs before in
          kids_more parcel before (c.args.levels - 1) _ q bs h.rows c.loop-k.k c.loop-k.self.place c.loop-k.below c.loop-k.drafts K l
          (role_of c.child_role-child.result) (child_is parcel h c.in_ok-opened.opened.format c.loop-k.k c.child_role-child.result i.format c.child_role-child.ensures l)
          c.args.drafts.now c.node.new.drafts c.in_ok-rows.rows n c.with-below.result I.inside (omega arith) (omega arith)
          (rw I.parcel at (e.reads K.held before)) (rw I.parcel at e.inside) c.with-below.ensures;
      inside = inside_more parcel q c.loop-k.self.place n c.args.drafts.now c.loop-k.drafts c.node.new.drafts (omega (arith, I.inside.few)) I.inside (rw I.parcel at e.inside);
      parcel = e.parcel ∙ I.parcel;
    }

pub returns-clause-reads : goal.returns-clause-reads
returns-clause-reads t c =
    let i = c.in_ok-opened.ensures.inside in
    let I = c.loop-k.invariant in
    let k : c.loop-k.k ≡ c.in_ok-opened.opened.head.children = omega (arith, c.loop-k-test.false, c.loop-k.auto.k-end) in
    λ bs before.
    let o = c.in_ok-opened.ensures.reads bs in
    node_found c.args.self.now.parcel.now before c.args.levels c.args.self.now.place c.begin.new.self.place bs c.from.result c.args.role c.in_ok-opened.opened o i.nodes
    c.loop-k.self.place c.loop-k.below c.loop-k.drafts c.loop-k.k (I.kids o.after before) i.children k c.args.drafts.now I.inside (omega arith)

pub returns-clause-inside : goal.returns-clause-inside
returns-clause-inside t c =
    let parcel = c.args.self.now.parcel.now in
    let p = c.args.self.now.place in
    let q = c.begin.new.self.place in
    let i = c.in_ok-opened.ensures.inside in
    found_inside parcel p q c.loop-k.self.place c.args.drafts.now c.loop-k.drafts _ i.nodes (omega (arith, i.nodes, i.few))
    (drafted parcel p q c.args.levels c.from.result c.args.role c.in_ok-opened.opened c.loop-k.below i (c.in_ok-opened.ensures.reads []) c.from.ensures.0 c.from.ensures.1) c.loop-k.invariant.inside
