use Rattle.std.proofs.Common.{◌≡◌, ◌∙◌, List, refl, ap, sym, subst, get_or}
use Rattle.std.proofs.lemmas.Result.{on_ok_weaker}
use Rattle.std.proofs.lemmas.Option.{slice_get_within}
use Rattle.lh_flat.specs.declared.flat.FlatBlock.{FlatBlock}
use Rattle.lh_region_walk.specs.declared.walk.Walk.{Walk}
use Rattle.lh_region_walk.specs.Merges.{TakesMerge, TakesMerges}
use Rattle.lh_term.proofs.Swaps.{grows_on}
use Rattle.lh_region.specs.Heads.{begins_with_phi}
use Rattle.lh_region_walk.proofs.Opened.{block-read, plain-between, lines-before, merge-before, merges-taken}
use Rattle.lh_region_joins.proofs.Conditions.{grows-none}
use Rattle.lh_region_walk.proofs.walk.Walk.take_merges.Goals as goal

pub returns-then-not-begins_with_phi-clause-taken : goal.returns-then-not-begins_with_phi-clause-taken
returns-then-not-begins_with_phi-clause-taken c f name before h b x xs d o =
    let y = c.index-as_slice-at.result in
    let q = block-read c.args.region.now.flat.now.blocks c.args.at.block b y o.stands.block
    (subst (λ (bs : List FlatBlock). y ≡ get_or bs c.args.at.block y) c.as_slice.ensures c.index-as_slice-at.is) in
    plain-between c.args.terms.now f name c.args.region.now c.args.self.now c.args.at before h b x xs d o (ap begins_with_phi q ∙ sym c.begins_with_phi.ensures ∙ c.if-not-begins_with_phi.true)

pub take_phis-requires : goal.take_phis-requires
take_phis-requires c =
    let t = c.requires in let o = t.opened in
    let y = c.index-as_slice-at.result in
    let q = block-read c.args.region.now.flat.now.blocks c.args.at.block t.block y o.stands.block
    (subst (λ (bs : List FlatBlock). y ≡ get_or bs c.args.at.block y) c.as_slice.ensures c.index-as_slice-at.is) in
    lines-before c.args.terms.now t.naming t.name c.args.region.now c.args.self.now c.args.at t.before t.here t.block t.first t.more t.course o y q
    (sym c.begins_with_phi.ensures ∙ c.if-not-begins_with_phi.false) c.as_slice-2.result.now c.as_slice-2.ensures

pub take_merge-requires : goal.take_merge-requires
take_merge-requires c =
    let t = c.requires in let o = t.opened in
    let y = c.index-as_slice-at.result in
    let q = block-read c.args.region.now.flat.now.blocks c.args.at.block t.block y o.stands.block
    (subst (λ (bs : List FlatBlock). y ≡ get_or bs c.args.at.block y) c.as_slice.ensures c.index-as_slice-at.is) in
    merge-before c.args.terms.now t.naming t.name c.args.region.now c.args.self.now c.args.at t.before t.here t.block t.first t.more t.course o y q
    (sym c.begins_with_phi.ensures ∙ c.if-not-begins_with_phi.false) c.as_slice-2.result.now c.as_slice-2.ensures
    c.take_phis.new.terms c.take_phis.new.places.items c.in_ok-take_phis.ensures.taken

pub returns-clause-taken : goal.returns-clause-taken
returns-clause-taken c =
    let ns = c.args.terms.now in let ms = c.take_phis.new.terms in let os = c.take_merge.new.terms in let qs = c.take_phis.new.places.items in
    let y = c.index-as_slice-at.result in let w = c.args.self.now in
    let p : Walk = record { places = c.take_merge.new.places; ahead = w.ahead; insts = w.insts; rows = w.rows; sources = w.sources } in
    on_ok_weaker {P = TakesMerge ms qs c.args.at.place y.merge os p.places.items} {Q = TakesMerges ns c.args.region.now w c.args.at os p} c.take_merge.result
    (λ t f name before h b x xs d o.
    let q = block-read c.args.region.now.flat.now.blocks c.args.at.block b y o.stands.block
    (subst (λ (bs : List FlatBlock). y ≡ get_or bs c.args.at.block y) c.as_slice.ensures c.index-as_slice-at.is) in
    merges-taken ns f name c.args.region.now w c.args.at before h b x xs d o y q (sym c.begins_with_phi.ensures ∙ c.if-not-begins_with_phi.false) c.as_slice-2.result.now
    c.as_slice-2.ensures ms qs c.in_ok-take_phis.ensures.taken os p (grows_on ns ms os c.take_phis.ensures.kept c.take_merge.ensures.kept) refl refl refl refl t)
    c.take_merge.ensures.taken

pub returns-in_err-take_phis-clause-kept : goal.returns-in_err-take_phis-clause-kept
returns-in_err-take_phis-clause-kept c = c.take_phis.ensures.kept

pub returns-clause-kept : goal.returns-clause-kept
returns-clause-kept c = grows_on c.args.terms.now c.take_phis.new.terms c.take_merge.new.terms c.take_phis.ensures.kept c.take_merge.ensures.kept

pub returns-then-not-begins_with_phi-clause-kept : goal.returns-then-not-begins_with_phi-clause-kept
returns-then-not-begins_with_phi-clause-kept c = grows-none c.args.terms.now

pub bounds-as_slice-at : goal.bounds-as_slice-at
bounds-as_slice-at c =
    rw c.as_slice.ensures (slice_get_within c.args.region.now.flat.now.blocks c.args.at.block c.requires.block c.requires.opened.stands.block)
