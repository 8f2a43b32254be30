use Rattle.lh_read.proofs.Lists.{st-placed}
use Rattle.lh_read.proofs.ids.Resolver.st.Goals as goal

pub returns : goal.returns
returns c =
    st-placed c.args.self.now.module c.operand.new.self.module c.value_id.new.self.module c.args.unit c.in_ok-to.to c.in_ok-value.value _ _ c.in_ok-to.ensures c.in_ok-value.ensures
