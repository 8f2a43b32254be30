use Rattle.std.proofs.Common.{◌≡◌, List, [], replicate, Option, None, ap, sym, ◌∙◌, subst}
use Rattle.lh_unit.specs.Arena.{value_count, args_at}
use Rattle.lh_unit.specs.Table.{ArgsWithin}
use Rattle.lh_region_def.specs.Known.{nothing_known, with_arguments}
use Rattle.lh_region.specs.Stands.{AreDrives}
use Rattle.lh_region.specs.declared.rows.DriveRow.{DriveRow}
use Rattle.lh_unit.specs.Arena.{unit_text_at}
use Rattle.lh_cert_read.specs.Known.{args_given, Knows}
use Rattle.lh_cert_read.specs.Rows.{AreRegisters}
use Rattle.lh_cert_read.specs.declared.known.Known.{Known}
use Rattle.lh_cert_read.specs.declared.rows.RegisterRow.{RegisterRow}
use Rattle.lh_cert_read.proofs.Found.{knows-nothing}
use Rattle.lh_cert_read.proofs.Arguments.{args-known}
use Rattle.lh_cert_read.proofs.reading.Reading.new.Goals as goal

pub returns : goal.returns
returns c = λ ns.
    let a = c.args.unit.module.now in
    let u = c.args.unit.unit.0 in
    let o = c.values.ensures.sound in
    let values = c.in_ok-known.known.values.items in
    let none : values ≡ (let nothing : Option Known = None in replicate (value_count a u) nothing) =
    c.in_ok-known.ensures ∙ ap (λ n. let nothing : Option Known = None in replicate n nothing) c.values.ensures.count in
    let begins = subst (λ (vs : List (Option Known)). Knows a u ns vs nothing_known) (sym none) (knows-nothing a u ns) in
    let within = subst (λ n. ArgsWithin n (args_at a u)) (sym begins.long) (o.tables u c.args.unit.in_place).args_within in
    let all = args-known a u o c.args.unit.in_place ns (args_at a u) 0 values nothing_known begins within c.requires.ports in
    record {
      known = subst (λ (vs : List (Option Known)). Knows a u ns vs (with_arguments nothing_known 0 (unit_text_at a u).args)) (sym (c.in_ok-give_args.ensures ∙ ap (args_given values 0) c.args-2.ensures.args)) all;
      says = record {
        probes = c.new-2.ensures.probes;
        drives = subst (λ (ds : List DriveRow). AreDrives ns ds []) (sym c.new-2.ensures.drives) tt;
        registers = subst (λ (rs : List RegisterRow). AreRegisters ns rs []) (sym c.new-2.ensures.registers) tt;
      };
    }
