use Rattle.std.proofs.Common.{◌≡◌, ◌<◌, ◌-◌, [], ◌∷◌, Some, None, sym, ◌∙◌, ap, subst, length, rules, arith}
use Rattle.std.proofs.lemmas.Grind.{common_steps}
use Rattle.std.proofs.lemmas.Result.{err_from_is_err_and}
use Rattle.lh_unit.specs.Lexemes.{word, punct}
use Rattle.lh_read_pieces.specs.LexemeOf.{lexeme_of}
use Rattle.lh_read_pieces.specs.Found.{ReadsAsFound}
use Rattle.lh_read_pieces.specs.Pieces.{first_at, parts_at}
use Rattle.lh_read_pieces.specs.Types.{data_at, data_in}
use Rattle.lh_read_pieces.specs.Shorter.{data_at-shorter}
use Rattle.lh_read_pieces.proofs.Found.{ReadsAsFound-without, ReadsAsFound-or}
use Rattle.lh_read_pieces.proofs.Lists.{At, At-start, At-none, At-next, At-end}
use Rattle.lh_read_pieces.proofs.DataTypes.{data_at-none, data_at-first, data_at-empty, data_in-other, next-shorter}
use Rattle.lh_read_pieces.proofs.types.+data.Goals as goal

pub data-returns-then-deep-eq0 : goal.data-returns-then-deep-eq0
data-returns-then-deep-eq0 t c = sym (data_at-none c.args.deep c.args.tokens.now c.if-deep-eq0.true)

pub data-returns-in_err-first : goal.data-returns-in_err-first
data-returns-in_err-first t c =
    let n : None ≡ first_at c.args.tokens.now = grind (arith, common_steps) in
    rw (data_at-empty c.args.deep c.args.tokens.now c.if-deep-eq0.false n) (grind (arith, common_steps))

pub data-returns-in-Word : goal.data-returns-in-Word
data-returns-in-Word t c =
    let h : Some (lexeme_of c.in_ok-first.first, c.in_ok-first.rest) ≡ first_at c.args.tokens.now = search rules in
    let f = data_at-first c.args.deep c.args.tokens.now c.in_ok-first.rest (lexeme_of c.in_ok-first.first) c.if-deep-eq0.false h in
    let x : lexeme_of c.in_ok-first.first ≡ word c.in-Word.word.now = ap lexeme_of c.in-Word.is in
    ReadsAsFound-or c.int_type.result (data_at c.args.deep c.args.tokens.now) c.ok_or-in-Word.result c.ok_or-in-Word.ensures.value
    (c.int_type.ensures ∙ sym (f ∙ ap (λ l. data_in (data_at (c.args.deep - 1)) (l ∷ c.in_ok-first.rest)) x))

pub data-returns-in-Punct : goal.data-returns-in-Punct
data-returns-in-Punct t c =
    let h : Some (lexeme_of c.in_ok-first.first, c.in_ok-first.rest) ≡ first_at c.args.tokens.now = search rules in
    let f = data_at-first c.args.deep c.args.tokens.now c.in_ok-first.rest (lexeme_of c.in_ok-first.first) c.if-deep-eq0.false h in
    let x : lexeme_of c.in_ok-first.first ≡ punct c.in-Punct.mark = ap lexeme_of c.in-Punct.is in
    subst (ReadsAsFound c.marked.result) (sym (f ∙ ap (λ l. data_in (data_at (c.args.deep - 1)) (l ∷ c.in_ok-first.rest)) x)) c.marked.ensures

pub data-returns-in_default : goal.data-returns-in_default
data-returns-in_default t c =
    let h : Some (lexeme_of c.in_ok-first.first, c.in_ok-first.rest) ≡ first_at c.args.tokens.now = search rules in
    let f = data_at-first c.args.deep c.args.tokens.now c.in_ok-first.rest (lexeme_of c.in_ok-first.first) c.if-deep-eq0.false h in
    sym (f ∙ data_in-other (data_at (c.args.deep - 1)) c.in_ok-first.first c.in_ok-first.rest c.in_default.not-Word c.in_default.not-Punct)

pub fields-loop-fields-smaller : goal.fields-loop-fields-smaller
fields-loop-fields-smaller t c =
    let e : data_at c.args.deep c.loop-fields.rest ≡ Some (c.in_ok-field.field, c.in_ok-field.more) = search rules in
    next-shorter c.args.deep c.loop-fields.rest c.in_ok-field.more c.in-Some.next c.in_ok-field.field e (sym c.in-Some.ensures)

pub fields-loop-fields-preserved : goal.fields-loop-fields-preserved
fields-loop-fields-preserved t c =
    let e : data_at c.args.deep c.loop-fields.rest ≡ Some (c.in_ok-field.field, c.in_ok-field.more) = search rules in
    let l : length c.in_ok-field.more < length c.loop-fields.rest = data_at-shorter c.args.deep c.loop-fields.rest (c.in_ok-field.field, c.in_ok-field.more) e in
    subst (At (data_at c.args.deep) c.args.tokens.now c.in-Some.next) (sym c.in_ok-push.ensures.ok)
    (At-next (data_at c.args.deep) c.args.tokens.now c.loop-fields.rest c.in_ok-field.more c.in-Some.next c.loop-fields.fields c.in_ok-field.field c.loop-fields.invariant e l (sym c.in-Some.ensures))

pub fields-returns-in_err-field : goal.fields-returns-in_err-field
fields-returns-in_err-field t c =
    let p = err_from_is_err_and c.from_residual.result c.from_residual.ensures.1 in
    rw (p.1, p.2) (ReadsAsFound-without _ (data_at c.args.deep c.loop-fields.rest) (parts_at (data_at c.args.deep) (length c.args.tokens.now) c.args.tokens.now) c.in_err-field.ensures
    (At-none (data_at c.args.deep) c.args.tokens.now c.loop-fields.rest c.loop-fields.fields c.loop-fields.invariant))

pub fields-returns-in-None : goal.fields-returns-in-None
fields-returns-in-None t c =
    let e : data_at c.args.deep c.loop-fields.rest ≡ Some (c.in_ok-field.field, c.in_ok-field.more) = search rules in
    let l : length c.in_ok-field.more < length c.loop-fields.rest = data_at-shorter c.args.deep c.loop-fields.rest (c.in_ok-field.field, c.in_ok-field.more) e in
    ap (λ xs. Some (xs, c.in_ok-field.more)) c.in_ok-push.ensures.ok
    ∙ sym (At-end (data_at c.args.deep) c.args.tokens.now c.loop-fields.rest c.in_ok-field.more c.loop-fields.fields c.in_ok-field.field c.loop-fields.invariant e l (sym c.in-None.ensures))

pub fields-loop-fields-init : goal.fields-loop-fields-init
fields-loop-fields-init t c =
    subst (At (data_at c.args.deep) c.args.tokens.now c.copy-rest.result) (sym c.new-fields.ensures)
    (subst (λ rest. At (data_at c.args.deep) c.args.tokens.now rest []) (sym c.copy-rest.ensures) (At-start (data_at c.args.deep) c.args.tokens.now))
