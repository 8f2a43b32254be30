-- The lowest fault of an instruction, from its eight tests.
use Rattle.std.proofs.Common.{◌≡◌, ◌<◌, Bool, true, false, Option, Some, None, refl, subst, arith}
use Rattle.lh_unit.specs.WellFormed.{FaultKind, number_of, undefined, wrong_kind, wrong_type, not_here, no_terminator, phi_edges, not_defined, arguments}
use Rattle.lh_unit.proofs.Lists.{some_inj}
use Rattle.lh_verify.specs.Faults.{first_of}

-- the test of a fault, of eight
abbrev pub of_eight : (a b d e g h l m : Bool) → FaultKind → Bool
of_eight a b d e g h l m undefined = a
of_eight a b d e g h l m wrong_kind = b
of_eight a b d e g h l m wrong_type = d
of_eight a b d e g h l m not_here = e
of_eight a b d e g h l m no_terminator = g
of_eight a b d e g h l m phi_edges = h
of_eight a b d e g h l m not_defined = l
of_eight a b d e g h l m arguments = m

-- the lowest of eight
abbrev pub lowest_of_eight : (a b d e g h l m : Bool) → Option FaultKind
lowest_of_eight a b d e g h l m = first_of a undefined
    (first_of b wrong_kind (first_of d wrong_type (first_of e not_here (first_of g no_terminator (first_of h phi_edges (first_of l not_defined (first_of m arguments None)))))))

-- a fault that holds, and none below it
abbrev pub IsLowest : (FaultKind → Bool) → FaultKind → Type 0
IsLowest test k = (test k ≡ true) × ((j : FaultKind) → number_of j < number_of k → test j ≡ false)

below_undefined : (b d e g h l m : Bool) → (j : FaultKind) → number_of j < 1 → of_eight true b d e g h l m j ≡ false
below_undefined b d e g h l m undefined q = absurd (omega arith)
below_undefined b d e g h l m wrong_kind q = absurd (omega arith)
below_undefined b d e g h l m wrong_type q = absurd (omega arith)
below_undefined b d e g h l m not_here q = absurd (omega arith)
below_undefined b d e g h l m no_terminator q = absurd (omega arith)
below_undefined b d e g h l m phi_edges q = absurd (omega arith)
below_undefined b d e g h l m not_defined q = absurd (omega arith)
below_undefined b d e g h l m arguments q = absurd (omega arith)

below_wrong_kind : (d e g h l m : Bool) → (j : FaultKind) → number_of j < 2 → of_eight false true d e g h l m j ≡ false
below_wrong_kind d e g h l m undefined q = refl
below_wrong_kind d e g h l m wrong_kind q = absurd (omega arith)
below_wrong_kind d e g h l m wrong_type q = absurd (omega arith)
below_wrong_kind d e g h l m not_here q = absurd (omega arith)
below_wrong_kind d e g h l m no_terminator q = absurd (omega arith)
below_wrong_kind d e g h l m phi_edges q = absurd (omega arith)
below_wrong_kind d e g h l m not_defined q = absurd (omega arith)
below_wrong_kind d e g h l m arguments q = absurd (omega arith)

below_wrong_type : (e g h l m : Bool) → (j : FaultKind) → number_of j < 3 → of_eight false false true e g h l m j ≡ false
below_wrong_type e g h l m undefined q = refl
below_wrong_type e g h l m wrong_kind q = refl
below_wrong_type e g h l m wrong_type q = absurd (omega arith)
below_wrong_type e g h l m not_here q = absurd (omega arith)
below_wrong_type e g h l m no_terminator q = absurd (omega arith)
below_wrong_type e g h l m phi_edges q = absurd (omega arith)
below_wrong_type e g h l m not_defined q = absurd (omega arith)
below_wrong_type e g h l m arguments q = absurd (omega arith)

below_not_here : (g h l m : Bool) → (j : FaultKind) → number_of j < 4 → of_eight false false false true g h l m j ≡ false
below_not_here g h l m undefined q = refl
below_not_here g h l m wrong_kind q = refl
below_not_here g h l m wrong_type q = refl
below_not_here g h l m not_here q = absurd (omega arith)
below_not_here g h l m no_terminator q = absurd (omega arith)
below_not_here g h l m phi_edges q = absurd (omega arith)
below_not_here g h l m not_defined q = absurd (omega arith)
below_not_here g h l m arguments q = absurd (omega arith)

below_no_terminator : (h l m : Bool) → (j : FaultKind) → number_of j < 5 → of_eight false false false false true h l m j ≡ false
below_no_terminator h l m undefined q = refl
below_no_terminator h l m wrong_kind q = refl
below_no_terminator h l m wrong_type q = refl
below_no_terminator h l m not_here q = refl
below_no_terminator h l m no_terminator q = absurd (omega arith)
below_no_terminator h l m phi_edges q = absurd (omega arith)
below_no_terminator h l m not_defined q = absurd (omega arith)
below_no_terminator h l m arguments q = absurd (omega arith)

below_phi_edges : (l m : Bool) → (j : FaultKind) → number_of j < 6 → of_eight false false false false false true l m j ≡ false
below_phi_edges l m undefined q = refl
below_phi_edges l m wrong_kind q = refl
below_phi_edges l m wrong_type q = refl
below_phi_edges l m not_here q = refl
below_phi_edges l m no_terminator q = refl
below_phi_edges l m phi_edges q = absurd (omega arith)
below_phi_edges l m not_defined q = absurd (omega arith)
below_phi_edges l m arguments q = absurd (omega arith)

below_not_defined : (m : Bool) → (j : FaultKind) → number_of j < 7 → of_eight false false false false false false true m j ≡ false
below_not_defined m undefined q = refl
below_not_defined m wrong_kind q = refl
below_not_defined m wrong_type q = refl
below_not_defined m not_here q = refl
below_not_defined m no_terminator q = refl
below_not_defined m phi_edges q = refl
below_not_defined m not_defined q = absurd (omega arith)
below_not_defined m arguments q = absurd (omega arith)

below_arguments : (j : FaultKind) → number_of j < 8 → of_eight false false false false false false false true j ≡ false
below_arguments undefined q = refl
below_arguments wrong_kind q = refl
below_arguments wrong_type q = refl
below_arguments not_here q = refl
below_arguments no_terminator q = refl
below_arguments phi_edges q = refl
below_arguments not_defined q = refl
below_arguments arguments q = absurd (omega arith)

-- where there is a lowest, and where there is none
pub lowest-some : (a b d e g h l m : Bool) (k : FaultKind) → lowest_of_eight a b d e g h l m ≡ Some k → IsLowest (of_eight a b d e g h l m) k
lowest-some true b d e g h l m k p = subst (IsLowest (of_eight true b d e g h l m)) (some_inj undefined k p) (refl, below_undefined b d e g h l m)
lowest-some false true d e g h l m k p = subst (IsLowest (of_eight false true d e g h l m)) (some_inj wrong_kind k p) (refl, below_wrong_kind d e g h l m)
lowest-some false false true e g h l m k p = subst (IsLowest (of_eight false false true e g h l m)) (some_inj wrong_type k p) (refl, below_wrong_type e g h l m)
lowest-some false false false true g h l m k p = subst (IsLowest (of_eight false false false true g h l m)) (some_inj not_here k p) (refl, below_not_here g h l m)
lowest-some false false false false true h l m k p = subst (IsLowest (of_eight false false false false true h l m)) (some_inj no_terminator k p) (refl, below_no_terminator h l m)
lowest-some false false false false false true l m k p = subst (IsLowest (of_eight false false false false false true l m)) (some_inj phi_edges k p) (refl, below_phi_edges l m)
lowest-some false false false false false false true m k p = subst (IsLowest (of_eight false false false false false false true m)) (some_inj not_defined k p) (refl, below_not_defined m)
lowest-some false false false false false false false true k p = subst (IsLowest (of_eight false false false false false false false true)) (some_inj arguments k p) (refl, below_arguments)
lowest-some false false false false false false false false k p = absurd cc

pub lowest-none : (a b d e g h l m : Bool) → lowest_of_eight a b d e g h l m ≡ None → (k : FaultKind) → of_eight a b d e g h l m k ≡ false
lowest-none true b d e g h l m p k = absurd cc
lowest-none false true d e g h l m p k = absurd cc
lowest-none false false true e g h l m p k = absurd cc
lowest-none false false false true g h l m p k = absurd cc
lowest-none false false false false true h l m p k = absurd cc
lowest-none false false false false false true l m p k = absurd cc
lowest-none false false false false false false true m p k = absurd cc
lowest-none false false false false false false false true p k = absurd cc
lowest-none false false false false false false false false p undefined = refl
lowest-none false false false false false false false false p wrong_kind = refl
lowest-none false false false false false false false false p wrong_type = refl
lowest-none false false false false false false false false p not_here = refl
lowest-none false false false false false false false false p no_terminator = refl
lowest-none false false false false false false false false p phi_edges = refl
lowest-none false false false false false false false false p not_defined = refl
lowest-none false false false false false false false false p arguments = refl
