-- The lines and the exit statuses of faults.
use Rattle.std.specs.Prelude.{ℕ, List, [], ◌∷◌, ◌++◌, codes}
use Rattle.std.specs.Fmt.{decimal}
use Rattle.capture_map.specs.Fault.{kind_text}
use Rattle.command_line.specs.declared.command.UsageFault.{UsageFault}
use Rattle.capture_map.specs.declared.map_fault.MapFault.{MapFault}
use Rattle.capture_map.specs.declared.map_fault.MapFault.TheVariants as map
use Rattle.receiver.specs.declared.setup.SetupError.{SetupError}
use Rattle.receiver.specs.declared.setup.SetupError.TheVariants as setup
use Rattle.engines.specs.declared.fault.EngineFault.{EngineFault}
use Rattle.engines.specs.declared.fault.EngineFault.TheVariants.{OutOfMemory}
use Rattle.engines.specs.Fault as engines
use Rattle.capture_command.specs.declared.command_fault.CaptureCommandFault.{CaptureCommandFault}
use Rattle.capture_command.specs.declared.command_fault.CaptureCommandFault.TheVariants.{Map, Setup, MapFile, OutputFile, Differs, Uncompared, Engine}

-- what is reported of a fault of the engine, of words, of a map, and of what a map sets up; that
-- memory ran out is told in one way
abbrev pub engine_fault : EngineFault → CaptureCommandFault
engine_fault fault = Engine fault

abbrev pub words_fault : UsageFault → CaptureCommandFault
words_fault fault = Engine (engines.usage_fault fault)

abbrev pub map_fault : MapFault → CaptureCommandFault
map_fault (map.Line number kind) = Map (map.Line number kind)
map_fault map.OutOfMemory = Engine OutOfMemory

abbrev pub setup_fault : SetupError → CaptureCommandFault
setup_fault setup.OutOfMemory = Engine OutOfMemory
setup_fault _ = Setup

-- what follows the program's name in a fault's line
abbrev pub fault_text : CaptureCommandFault → List ℕ
fault_text (Map (map.Line number kind)) = codes "map: line " ++ decimal number ++ codes ": " ++ kind_text kind
fault_text (Map map.OutOfMemory) = codes "out of memory"
fault_text Setup = codes "the map cannot be used"
fault_text MapFile = codes "the map cannot be read"
fault_text OutputFile = codes "a file cannot be written"
fault_text Differs = codes "the frames differ from the analyser's"
fault_text Uncompared = codes "no frame was compared"
fault_text (Engine fault) = engines.fault_text fault

-- a fault's line, with its line feed
abbrev pub fault_line : CaptureCommandFault → List ℕ
fault_line fault = codes "segrx: " ++ fault_text fault ++ 10 ∷ []

-- the exit status of a fault
abbrev pub status_of : CaptureCommandFault → ℕ
status_of (Map fault) = 1
status_of Setup = 1
status_of MapFile = 4
status_of OutputFile = 4
status_of Differs = 5
status_of Uncompared = 5
status_of (Engine fault) = engines.status_of fault
