use Rattle.std.specs.Prelude.{◌++◌, codes, decimal}
use Rattle.lh_unit.specs.Pieces.{render}
use Rattle.lh_unit.specs.CanonTypes.{type_pieces}
use Rattle.lh_text_buffer.proofs.Parts.{two-written}
use Rattle.lh_wave.proofs.lines.put_signal.Goals as goal

pub returns : goal.returns
returns c = two-written _ _ _ (codes "sig " ++ decimal c.args.signal ++ codes " " ++ render (type_pieces c.args.ty.now) ++ codes " " ++ c.args.path.now ++ codes "." ++ c.args.name.now) (codes "\n") (two-written _ _ _ (codes "sig " ++ decimal c.args.signal ++ codes " " ++ render (type_pieces c.args.ty.now) ++ codes " " ++ c.args.path.now ++ codes ".") c.args.name.now (two-written _ _ _ (codes "sig " ++ decimal c.args.signal ++ codes " " ++ render (type_pieces c.args.ty.now) ++ codes " " ++ c.args.path.now) (codes ".") (two-written _ _ _ (codes "sig " ++ decimal c.args.signal ++ codes " " ++ render (type_pieces c.args.ty.now) ++ codes " ") c.args.path.now (two-written _ _ _ (codes "sig " ++ decimal c.args.signal ++ codes " " ++ render (type_pieces c.args.ty.now)) (codes " ") (two-written _ _ _ (codes "sig " ++ decimal c.args.signal ++ codes " ") (render (type_pieces c.args.ty.now)) (two-written _ _ _ (codes "sig " ++ decimal c.args.signal) (codes " ") (two-written _ _ _ (codes "sig ") (decimal c.args.signal) c.put.ensures c.put_number.ensures) c.put-2.ensures) c.put_type.ensures) c.put-3.ensures) c.put-4.ensures) c.put-5.ensures) c.put-6.ensures) c.put-7.ensures
