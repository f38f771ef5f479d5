-- The texts of the reasons for which a call goes to nvcc unchanged.
use Rattle.std.specs.Prelude.{ℕ, List, codes}
use Rattle.nvcc_calls.specs.declared.reason.Reason.{Reason}
use Rattle.nvcc_calls.specs.declared.reason.Reason.TheVariants.{Links, OtherPhase, SeveralPhases, NoInput, SeveralInputs, NotSource, HostSource, Prints, Cleans, Measures, OptionsFile, TemporaryFiles, Jobserver, DrivePrefix, StandardInput, StandardOutput, HiddenName, UnknownOption, MissingValue, BadValue, DependencyWords, ShellCharacter, VariableQuotes, OtherReading, GeneratedName, DirectoryName, ToolFile, HostFile, KeptName, OpenFile}

-- a reason's text
abbrev pub text_of : Reason → List ℕ
text_of Links = codes "it links"
text_of OtherPhase = codes "its phase isn't split"
text_of SeveralPhases = codes "it names several phases"
text_of NoInput = codes "it names no input"
text_of SeveralInputs = codes "it names several inputs"
text_of NotSource = codes "its input is no CUDA, C or C++ source"
text_of HostSource = codes "its input has no device code"
text_of Prints = codes "it prints something"
text_of Cleans = codes "it removes files"
text_of Measures = codes "it measures times"
text_of OptionsFile = codes "an options file is missing or odd"
text_of TemporaryFiles = codes "its temporary files go beside the object"
text_of Jobserver = codes "it uses make's jobserver"
text_of DrivePrefix = codes "it names a prefix of drives"
text_of StandardInput = codes "it reads standard input"
text_of StandardOutput = codes "its output is no file"
text_of HiddenName = codes "its output's name isn't certain"
text_of UnknownOption = codes "an option is unknown"
text_of MissingValue = codes "an option lacks its value"
text_of BadValue = codes "an option has an odd value"
text_of DependencyWords = codes "its dependency file is an odd one"
text_of ShellCharacter = codes "nvcc's shell may expand a word"
text_of VariableQuotes = codes "NVCC_PREPEND_FLAGS or NVCC_APPEND_FLAGS has quotes"
text_of OtherReading = codes "its words can be read in two ways"
text_of GeneratedName = codes "a name looks like that of a generated file"
text_of DirectoryName = codes "nvcc's shell may expand its directory's name"
text_of ToolFile = codes "a word for a tool may name a file"
text_of HostFile = codes "several preprocessors may write one file"
text_of KeptName = codes "its output may have the name of a kept file"
text_of OpenFile = codes "it uses an open file"
