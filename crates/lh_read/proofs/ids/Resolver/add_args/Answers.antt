use Rattle.std.proofs.Common.{◌≡◌, ◌+◌, ◌++◌, ◌∷◌, [], map, take, drop, sym, ◌∙◌, ap, subst}
use Rattle.lh_unit.specs.Contents.{ArgText}
use Rattle.lh_unit.specs.Naming.{arg_text}
use Rattle.lh_unit.specs.Arena.{naming}
use Rattle.lh_read.specs.Building.{arg_of}
use Rattle.lh_read.specs.FaultOf.{fault_of}
use Rattle.lh_read.proofs.Args.{At, At-start, At-grown, At-next, arg-named, args-refused, adds-err, done_next, done_rest}
use Rattle.lh_read.proofs.ids.Resolver.add_args.Goals as goal

pub loop-param-init : goal.loop-param-init
loop-param-init c = (At-start c.args.self.now.module c.args.unit c.requires.within c.requires.opened c.requires.begun, λ e. e)

pub returns-in_err-add_arg : goal.returns-in_err-add_arg
returns-in_err-add_arg c =
    let p = c.param-item.result in let i = c.loop-param.param-index in let mid = c.value_id.new.self.module in
    let f = arg_of c.args.output in let ps = c.args.params.now in let e = c.in_err-add_arg.field-0.0 in
    let name = c.in_ok-value.ensures.says ∙ c.name.ensures in let ty = c.in_ok-ty.ensures ∙ c.ty.ensures in
    let same : arg_text (naming mid c.args.unit.0) (record { value = c.in_ok-value.value; ty = c.in_ok-ty.ty; output = c.args.output })
    ≡ f p = λ j. record { name = name j; ty = ty j; output = c.args.output } in
    let all : map f ps ≡ (map f (take i ps) ++ f p ∷ []) ++ map f (drop (i + 1) ps) = done_rest c.args.output ps (i + 1)
    ∙ ap (λ xs. xs ++ map f (drop (i + 1) ps)) (done_next c.args.output ps i p c.loop-param-test.true c.param-item.is) in
    adds-err c.from_residual-in_err-add_arg.result (fault_of e) c.args.self.now.module c.add_arg.new.self c.args.unit (map f ps) c.from_residual-in_err-add_arg.ensures.1
    (args-refused c.args.self.now.module mid c.add_arg.new.self c.args.unit (map f (take i ps)) (f p) _ (map f ps) (map f (drop (i + 1) ps)) e
    (At-grown c.args.self.now.module c.loop-param.self.module mid c.args.unit _ c.loop-param.invariant.0 c.in_ok-value.ensures.grows) same all c.in_err-add_arg.ensures)

pub loop-param-preserved : goal.loop-param-preserved
loop-param-preserved c =
    let p = c.param-item.result in let i = c.loop-param.param-index in let mid = c.value_id.new.self.module in
    let f = arg_of c.args.output in let ps = c.args.params.now in
    let name = c.in_ok-value.ensures.says ∙ c.name.ensures in let ty = c.in_ok-ty.ensures ∙ c.ty.ensures in
    let given : ArgText = arg_text (naming mid c.args.unit.0) (record { value = c.in_ok-value.value; ty = c.in_ok-ty.ty; output = c.args.output }) in
    let same : given ≡ f p = λ j. record { name = name j; ty = ty j; output = c.args.output } in
    let done : map f (take i ps) ++ given ∷ [] ≡ map f (take (i + 1) ps) = ap (λ a. map f (take i ps) ++ a ∷ []) same ∙ sym (done_next c.args.output ps i p c.loop-param-test.true c.param-item.is) in
    let now = At-grown c.args.self.now.module c.loop-param.self.module mid c.args.unit _ c.loop-param.invariant.0 c.in_ok-value.ensures.grows in (
      subst (At c.args.self.now.module c.add_arg.new.self c.args.unit) done
          (At-next c.args.self.now.module mid c.add_arg.new.self c.args.unit (map f (take i ps)) given now c.in_ok-add_arg.ensures.0 c.in_ok-add_arg.ensures.1),
      λ e. arg-named c.loop-param.self.module mid c.add_arg.new.self c.args.unit c.in_ok-value.value _ given c.in_ok-value.ensures.says (c.loop-param.invariant.1 e) c.in_ok-value.ensures now.is_open
          c.in_ok-add_arg.ensures.1,
    )
