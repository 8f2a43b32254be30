-- The account of a run from what it did up to its status line, and from what became of the line.
use Rattle.std.proofs.Common.{◌≡◌, ℕ, ◌<◌, ◌≤◌, ◌⊎◌, inl, inr, List, [], refl, sym, ◌∙◌, Option, Some, None, Result, Ok, Err, IfSome, arith}
use Rattle.std.proofs.lemmas.List.{append-nil}
use Rattle.lh_io.specs.Streams.{Rose, Appends}
use Rattle.lh_io.specs.declared.stream.Failed.{Failed}
use Rattle.lh_watch.specs.Members.{Member}
use Rattle.lh_result.specs.StatusLines.{status_line}
use Rattle.lh_result.specs.Account.{SinkUse, use_of, Faulted, IsPrefix, IsProperPrefix, Puts, Performs, Account, OfSource, IsResultOrNoMemory}
use Rattle.lh_result.specs.declared.status.Status.{Status}
use Rattle.lh_result.specs.declared.status.Status.TheVariants.{Usage, ReadFault, SourceTooLong, Refused, Top, OutputTooLong, WriteFault, Runaway, AssertFailed, Done, OutOfMemory}
use Rattle.lh_result.proofs.Results.{IsResult-unique}

-- what a fact of the bytes implies
pub OfSource-weaker : (left : Option (List ℕ)) (P Q : List ℕ → Type 0) → ((bytes : List ℕ) → P bytes → Q bytes) → OfSource left P → OfSource left Q
OfSource-weaker None P Q implies (bytes, p) = (bytes, implies bytes p)
OfSource-weaker (Some bytes) P Q implies p = implies bytes p

-- the part of the status line that came to the log
record Line (held now : Option (List ℕ)) (held_faults faults : ℕ) (text : List ℕ) : Type 0 where
  line : List ℕ
  is_prefix : IsPrefix line text
  whole : (Rose held_faults faults → ⊥) → line ≡ text
  gained : Appends held now line

line_of : (r : Result (Unit {0}) Failed) (held now : Option (List ℕ)) (held_faults faults : ℕ) (text : List ℕ) → Puts r (use_of held now held_faults faults) text
    → Line held now held_faults faults text
line_of (Ok _) held now held_faults faults text puts = record { line = text; is_prefix = ([], sym (append-nil text)); whole = λ calm. refl; gained = puts }
line_of (Err _) held now held_faults faults text off = record { line = off.part; is_prefix = (off.is_prefix.rest, off.is_prefix.split); whole = λ calm. absurd (calm off.rose); gained = off.gained }

-- what rises in its second part rises
rises_late : (a b c : ℕ) → a ≤ b → Rose b c → Rose a c
rises_late a b c le rose = λ below. let up : b < c = rose below in omega arith

-- what rises in its first part rises
rises_early : (a b c : ℕ) → b ≤ c → Rose a b → Rose a c
rises_early a b c le rose = λ below. let up : a < b = rose (omega arith) in omega arith

account_of : (words : List (List ℕ)) (bytes : List ℕ) (ms : List Member) (ended : Status) (out : SinkUse) (was held now : Option (List ℕ)) (was_faults held_faults faults : ℕ) (left : List Member)
    → Performs words bytes ms ended out (use_of was held was_faults held_faults) left → Line held now held_faults faults (status_line ended) → was_faults ≤ held_faults → held_faults ≤ faults
    → Account words bytes ms ended out (use_of was now was_faults faults) left
account_of words bytes ms ended out was held now was_faults held_faults faults left p l first second = record {
  held = held;
  held_faults = held_faults;
  before = p;
  line = l.line;
  line_prefix = l.is_prefix;
  line_whole = λ calm. l.whole (λ rose. calm (rises_late was_faults held_faults faults first rose));
  line_gained = l.gained;
  rising = (first, second);
}

-- the account of a run, whatever became of its status line
pub Account-run : (r : Result (Unit {0}) Failed) (words : List (List ℕ)) (source : Option (List ℕ)) (ms : List Member) (ended : Status) (out : SinkUse) (was held now : Option (List ℕ)) (was_faults
    held_faults faults : ℕ) (left : List Member) → OfSource source (λ bytes. Performs words bytes ms ended out (use_of was held was_faults held_faults) left)
    → Puts r (use_of held now held_faults faults) (status_line ended) → was_faults ≤ held_faults → held_faults ≤ faults
    → OfSource source (λ bytes. Account words bytes ms ended out (use_of was now was_faults faults) left)
Account-run r words source ms ended out was held now was_faults held_faults faults left performs puts first second =
    OfSource-weaker source (λ bytes. Performs words bytes ms ended out (use_of was held was_faults held_faults) left)
    (λ bytes. Account words bytes ms ended out (use_of was now was_faults faults) left)
    (λ bytes p. account_of words bytes ms ended out was held now was_faults held_faults faults left p (line_of r held now held_faults faults (status_line ended) puts) first second) performs

settled_at : (words : List (List ℕ)) (bytes : List ℕ) (ms : List Member) (ended : Status) (out log : SinkUse) (now : List Member) (p : Performs words bytes ms ended out log now) → ended ≡ p.status
    → IsResultOrNoMemory words bytes ms ended
settled_at words bytes ms ended out log now p is status o l left result = inl (is ∙ sym (IsResult-unique words bytes ms p.status status p.out_text p.log_text o l p.left left p.result result).0)

no_write_fault : (out log : SinkUse) (a b c d : List ℕ) → (IsProperPrefix a b × Faulted out) ⊎ (IsProperPrefix c d × Faulted log) → (Faulted out → ⊥) → (Faulted log → ⊥) → ⊥
no_write_fault out log a b c d (inl (part, rose)) o l = o rose
no_write_fault out log a b c d (inr (part, rose)) o l = l rose

-- where no faults rose, the status is that of the result, or memory ran out
complete_at : (words : List (List ℕ)) (bytes : List ℕ) (ms : List Member) (ended : Status) (out log : SinkUse) (now : List Member) (was_faults faults : ℕ) → Performs words bytes ms ended out log now
    → (ended ≡ ReadFault → Rose was_faults faults) → (Rose was_faults faults → ⊥) → (Faulted out → ⊥) → (Faulted log → ⊥) → IsResultOrNoMemory words bytes ms ended
complete_at words bytes ms Usage out log now was_faults faults p rose s o l = settled_at words bytes ms Usage out log now p p.sinks.by_status.0
complete_at words bytes ms SourceTooLong out log now was_faults faults p rose s o l = settled_at words bytes ms SourceTooLong out log now p p.sinks.by_status.0
complete_at words bytes ms (Refused why) out log now was_faults faults p rose s o l = settled_at words bytes ms (Refused why) out log now p p.sinks.by_status.0
complete_at words bytes ms (Top why) out log now was_faults faults p rose s o l = settled_at words bytes ms (Top why) out log now p p.sinks.by_status.0
complete_at words bytes ms OutputTooLong out log now was_faults faults p rose s o l = settled_at words bytes ms OutputTooLong out log now p p.sinks.by_status.0
complete_at words bytes ms (Runaway i) out log now was_faults faults p rose s o l = settled_at words bytes ms (Runaway i) out log now p p.sinks.by_status.0
complete_at words bytes ms AssertFailed out log now was_faults faults p rose s o l = settled_at words bytes ms AssertFailed out log now p p.sinks.by_status.0
complete_at words bytes ms Done out log now was_faults faults p rose s o l = settled_at words bytes ms Done out log now p p.sinks.by_status.0
complete_at words bytes ms OutOfMemory out log now was_faults faults p rose s o l = λ status ot lt left result. inr refl
complete_at words bytes ms ReadFault out log now was_faults faults p rose s o l = absurd (s (rose refl))
complete_at words bytes ms WriteFault out log now was_faults faults p rose s o l = absurd (no_write_fault out log p.sinks.out_part p.out_text p.sinks.log_part p.log_text p.sinks.by_status o l)

pub IsResultOrNoMemory-run : (words : List (List ℕ)) (source : Option (List ℕ)) (ms : List Member) (ended : Status) (out : SinkUse) (was now : Option (List ℕ)) (log_was log_faults : ℕ)
    (left : List Member) (was_faults faults : ℕ) → OfSource source (λ bytes. Account words bytes ms ended out (use_of was now log_was log_faults) left) → (ended ≡ ReadFault → Rose was_faults faults)
    → IfSome source (λ bytes. (Rose was_faults faults → ⊥) → (Faulted out → ⊥) → (Rose log_was log_faults → ⊥) → IsResultOrNoMemory words bytes ms ended)
IsResultOrNoMemory-run words None ms ended out was now log_was log_faults left was_faults faults account rose = tt
IsResultOrNoMemory-run words (Some bytes) ms ended out was now log_was log_faults left was_faults faults a rose =
    λ s o l. complete_at words bytes ms ended out (use_of was a.held log_was a.held_faults) left was_faults faults a.before rose s o
    (λ up. l (rises_early log_was a.held_faults log_faults a.rising.1 up))
