-- The option `--channels`, by which words ask how many channels a trace that is followed may have.
use Rattle.std.specs.Prelude.{◌≡◌, ◌⊎◌, ℕ, List, codes}
use Rattle.text_lines.specs.Number.{IsNumberIn}
use Rattle.command_line.specs.OptionWords.{HasNoOption, HasOneValue}

-- the greatest number of channels
abbrev pub channels_max : ℕ
channels_max = 16

-- the option, whose value is a number
abbrev pub channels_option : List ℕ
channels_option = codes "--channels"

-- options ask for this many channels: by the one `--channels` among them, and for 16 where there is
-- none; where there are two they ask for no number
abbrev pub AskForChannels : ℕ → List (List ℕ) → Type 0
AskForChannels channels options =
    (HasNoOption channels_option options × (channels ≡ channels_max))
    ⊎ ((value : List ℕ) × HasOneValue channels_option options value × IsNumberIn value 1 channels_max channels)
