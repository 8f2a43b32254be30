use Rattle.std.proofs.Common.{◌≡◌, ◌-◌, []}
use Rattle.lh_unit.specs.World.{World}
use Rattle.lh_kernel.specs.Simulation.{StandsFor}
use Rattle.lh_selftest.specs.Courses.{CourseGoesOn, course_on}
use Rattle.lh_selftest.proofs.course.run.Given as goal

abbrev pub invariant-loop-frame : goal.invariant-loop-frame
invariant-loop-frame l = record {
  arena : l.sim.arena ≡ l.fn.sim.arena;
  design : l.sim.design ≡ l.fn.sim.design;
  course : (w : World) → StandsFor l.fn.sim w →
      CourseGoesOn l.fn.sim.arena l.fn.sim.design (l.frames - l._frame) (course_on l.fn.sim.arena l.fn.sim.design [] l.frames w) l.sim l.counts;
}
