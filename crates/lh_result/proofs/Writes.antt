-- How writes to a sink add up.
use Rattle.std.proofs.Common.{◌≡◌, ℕ, ◌+◌, ◌-◌, ◌<◌, ◌≤◌, List, ◌++◌, length, take, drop, ap, sym, ◌∙◌, subst, Option, Some, None, arith, append_assoc, Result, Ok, Err, OnOk, OnErr, length-append}
use Rattle.std.proofs.lemmas.List.{take-append-drop, length-drop}
use Rattle.lh_io.specs.Streams.{Rose, Appends, AppendsProperPrefix}
use Rattle.lh_io.specs.declared.stream.Failed.{Failed}
use Rattle.lh_result.specs.Account.{SinkUse, use_of, WriteBreaksOff, Puts}

pub BreaksOff_of : (was now : Option (List ℕ)) (was_faults faults : ℕ) (text : List ℕ) → AppendsProperPrefix was now text → Rose was_faults faults → WriteBreaksOff (use_of was now was_faults faults) text
BreaksOff_of was now was_faults faults text cut rose = record {
  part = take cut.count text;
  is_prefix = record {
    rest = drop cut.count text;
    split = sym (take-append-drop cut.count text);
    proper = (let len : length (drop cut.count text) ≡ length text - cut.count = length-drop cut.count text in let fits : cut.count < length text = cut.is_proper in omega arith);
  };
  gained = cut.told;
  rose = rose;
}

-- what `write_all` ensures, in one word
pub Puts_of : (r : Result (Unit {0}) Failed) (was now : Option (List ℕ)) (was_faults faults : ℕ) (text : List ℕ) → OnOk r (Appends was now text) → OnErr r (AppendsProperPrefix was now text)
    → OnErr r (Rose was_faults faults) → Puts r (use_of was now was_faults faults) text
Puts_of (Ok _) was now was_faults faults text whole cut rose = whole
Puts_of (Err _) was now was_faults faults text whole cut rose = BreaksOff_of was now was_faults faults text cut rose

-- the first of two texts broke off
pub BreaksOff_first : (u : SinkUse) (a b : List ℕ) → WriteBreaksOff u a → WriteBreaksOff u (a ++ b)
BreaksOff_first u a b off = record {
  part = off.part;
  is_prefix = record {
    rest = off.is_prefix.rest ++ b;
    split = ap (λ t. t ++ b) off.is_prefix.split ∙ append_assoc off.part off.is_prefix.rest b;
    proper = (let len : length (off.is_prefix.rest ++ b) ≡ length off.is_prefix.rest + length b = length-append off.is_prefix.rest b in
        let some : 0 < length off.is_prefix.rest = off.is_prefix.proper in omega arith);
  };
  gained = off.gained;
  rose = off.rose;
}

pub Appends_more : (was mid now : Option (List ℕ)) (a b : List ℕ) → Appends was mid a → Appends mid now b → Appends was now (a ++ b)
Appends_more None mid now a b first second = tt
Appends_more (Some xs) mid now a b first second =
    let P : Option (List ℕ) → Type 0 = λ o. Appends o now b in
    let told : now ≡ Some ((xs ++ a) ++ b) = subst P first second in
    told ∙ ap Some (append_assoc xs a b)

-- the second of two texts broke off
pub BreaksOff_second : (was mid now : Option (List ℕ)) (was_faults mid_faults faults : ℕ) (a b : List ℕ) → Appends was mid a → was_faults ≤ mid_faults → WriteBreaksOff (use_of mid now mid_faults faults) b
    → WriteBreaksOff (use_of was now was_faults faults) (a ++ b)
BreaksOff_second was mid now was_faults mid_faults faults a b first le off = record {
  part = a ++ off.part;
  is_prefix = record {
    rest = off.is_prefix.rest;
    split = ap (λ t. a ++ t) off.is_prefix.split ∙ sym (append_assoc a off.part off.is_prefix.rest);
    proper = off.is_prefix.proper;
  };
  gained = Appends_more was mid now a off.part first off.gained;
  rose = λ below. let rose : mid_faults < faults = off.rose below in omega arith;
}

-- two texts, one after the other
pub Puts_second : (r : Result (Unit {0}) Failed) (was mid now : Option (List ℕ)) (was_faults mid_faults faults : ℕ) (a b : List ℕ) → Appends was mid a → was_faults ≤ mid_faults
    → Puts r (use_of mid now mid_faults faults) b → Puts r (use_of was now was_faults faults) (a ++ b)
Puts_second (Ok _) was mid now was_faults mid_faults faults a b first le puts = Appends_more was mid now a b first puts
Puts_second (Err _) was mid now was_faults mid_faults faults a b first le puts = BreaksOff_second was mid now was_faults mid_faults faults a b first le puts

-- texts may be grouped anew
pub Puts_regrouped : (r : Result (Unit {0}) Failed) (u : SinkUse) (a b c : List ℕ) → Puts r u (a ++ (b ++ c)) → Puts r u (a ++ b ++ c)
Puts_regrouped r u a b c puts =
    let P : List ℕ → Type 0 = λ t. Puts r u t in
    subst P (sym (append_assoc a b c)) puts

-- the same text
pub Puts_same : (r : Result (Unit {0}) Failed) (u : SinkUse) (text again : List ℕ) → text ≡ again → Puts r u text → Puts r u again
Puts_same r u text again same puts =
    let P : List ℕ → Type 0 = λ t. Puts r u t in
    subst P same puts
