-- What a command of the program stands for.
use Rattle.std.specs.Prelude.{ℕ, ◌||◌, List, [], ◌∷◌, codes, if◌then◌else◌}
use Rattle.std.specs.Str.{bytes_eq}
use Rattle.lh_unit_names.specs.declared.name.UnitName.{UnitName}
use Rattle.lh_args.specs.declared.choice.Setting.{Setting}
use Rattle.lh_args.specs.declared.choice.Setting.TheVariants as setting
use Rattle.lh_args.specs.declared.command.Top.{Top}
use Rattle.lh_args.specs.declared.command.Simulate.{Simulate}
use Rattle.lh_args.specs.declared.command.Titles.{Titles}
use Rattle.lh_args.specs.declared.command.FileCommand.{FileCommand}
use Rattle.lh_args.specs.declared.command.FileCommand.TheVariants as on_file
use Rattle.lh_args.specs.declared.command.Command.{Command}
use Rattle.lh_args.specs.declared.command.Command.TheVariants as command
use Rattle.lh_args.specs.Forms.{Choice, top, steps, vcd, watch, SimulateRequest, FileRequest, check, lower, simulate, WordsAskFor, WordsAskForSelfTest}

-- what the next word is
pub data Turn : Type 0 where
  at_option : Turn
  at_value : Turn
  at_title : Turn

-- the titles that the options at the front of some words give
abbrev pub titles_from : Turn → List (List ℕ) → List (List ℕ)
titles_from turn [] = []
titles_from at_option (w ∷ ws) =
    if bytes_eq w (codes "--watch") then titles_from at_title ws
    else if bytes_eq w (codes "--vcd") then titles_from at_option ws
    else if bytes_eq w (codes "--top") || bytes_eq w (codes "--steps") then titles_from at_value ws else []
titles_from at_value (w ∷ ws) = titles_from at_option ws
titles_from at_title (w ∷ ws) = w ∷ titles_from at_option ws

abbrev pub choice_of : Setting → Choice
choice_of (setting.Top name) = top name.now
choice_of (setting.Steps number) = steps number.now
choice_of setting.Vcd = vcd
choice_of (setting.Watch title) = watch title.now

abbrev pub top_of : Top → UnitName
top_of t = record { sigil = t.sigil; name = t.name.now }

abbrev pub simulation_of : Simulate → SimulateRequest
simulation_of s = record { top = top_of s.top; steps = s.steps; vcd = s.vcd; titles = titles_from at_option s.options.now }

-- the titles that are still to come
abbrev pub titles_left : Titles → List (List ℕ)
titles_left t = titles_from at_option t.words.now

-- what a command asks for of a file
abbrev pub meant : FileCommand → FileRequest
meant on_file.Check = check
meant on_file.Lower = lower
meant (on_file.Simulate s) = simulate (simulation_of s)

-- the words ask for what a command is
abbrev pub IsMeant : List (List ℕ) → Command → Type 0
IsMeant words (command.OnFile c) = WordsAskFor words (meant c)
IsMeant words (command.Selftest links) = WordsAskForSelfTest words links
