-- The table of the words that a cache knows, as `known_words` has it. What a tool does by each word is said there.
use Rattle.std.specs.Prelude.{◌≡◌, ℕ, List, [], ◌∷◌, ◌++◌, Bool, Option, Some, None, codes, refl, map}
use Rattle.std.specs.List.{find}
use Rattle.std.specs.Option.{option_or}
use Rattle.texts.specs.Lists.{is_some_and}
use Rattle.texts.specs.Rows.{spaced}
use Rattle.compilers.specs.declared.plans.program.Program.{Program}
use Rattle.compilers.specs.declared.plans.program.Program.TheVariants.{Cicc, Ptxas, Cudafe, Fatbinary, Nvlink, Other}
use Rattle.command_keys.specs.declared.known_words.Form.{Form}
use Rattle.command_keys.specs.declared.known_words.Form.TheVariants.{Whole, Beginning, Valued}
use Rattle.command_keys.specs.declared.known_words.Meaning.{Meaning}
use Rattle.command_keys.specs.declared.known_words.Meaning.TheVariants.{Counts, Names, OwnName, Preprocessor, File, Image, Refused}
use Rattle.command_keys.specs.KnownWords.{Row, fits, is_naming, is_own_naming}

-- rows of one form and one meaning
abbrev pub rows : Form → Meaning → List (List ℕ) → List Row
rows form meaning texts = map (λ text. (text, form, meaning)) texts

-- words that both front ends have: cudafe++ and cicc
abbrev pub of_front_ends : List Row
of_front_ends =
    rows Whole Counts (spaced "--allow_managed --c++03 --c++11 --c++14 --c++17 --c++20")
    ++ (rows Whole Names (spaced "--debug_mode")
    ++ (rows Whole Counts (spaced "--device-c --device-hidden-visibility --display_error_number --extended-lambda --gen_module_id_file")
    ++ (rows Whole Counts (spaced "--keep-device-functions --m64 --no-device-int128 --no_warnings --parse_templates --promote_warnings")
    ++ (rows Whole Counts (spaced "--relaxed_constexpr --simt-only --static-host-stub")
    ++ (rows Beginning Counts (spaced "--diag_error= --diag_suppress= --diag_warn= --gnu_version= --unicode_source_kind=")
    ++ (rows Valued Counts (spaced "--diag_error --diag_suppress --diag_warn")
    ++ (rows Valued File (spaced "--gen_c_file_name --module_id_file_name")
    ++ (rows Valued Counts (spaced "--orig_src_file_name --orig_src_path_name --stub_file_name")))))))))

-- cicc's own words
abbrev pub of_cicc : List Row
of_cicc =
    rows Whole Counts (spaced "--gen_div_approx_ftz --no-version-ident -O0 -extra-device-vectorization -fast-math")
    ++ (rows Whole Names (spaced "-g -generate-line-info -inline-info")
    ++ (rows Whole Counts (spaced "-kernel-params-are-restrict -m64 -tused")
    ++ (rows Beginning Counts (spaced "-fmad= -ftz= -prec_div= -prec_sqrt=")
    ++ (rows Valued File (spaced "--gen_device_file_name")
    ++ (rows Valued Counts (spaced "--include_file_name -arch -maxreg")
    ++ (rows Valued File (spaced "-o")
    ++ (rows Valued Counts (spaced "-split-compile"))))))))

-- words of ptxas
abbrev pub of_ptxas : List Row
of_ptxas =
    rows Whole Counts (spaced "--compile-only --dont-merge-basicblocks")
    ++ (rows Whole Names (spaced "--generate-line-info")
    ++ (rows Whole Counts (spaced "--return-at-end --warning-as-error -O0 -O1 -O2 -O3")
    ++ (rows Whole OwnName (spaced "-g")
    ++ (rows Whole Names (spaced "-lineinfo")
    ++ (rows Whole Counts (spaced "-m64 -suppress-stack-size-warning -v -warn-lmem-usage -warn-spills")
    ++ (rows Beginning Counts (spaced "--allow-expensive-optimizations= --maxrregcount= -arch=sm_ -dlcm= -maxrregcount= -split-compile=")
    ++ (rows Valued File (spaced "-o"))))))))

-- words of fatbinary
abbrev pub of_fatbinary : List Row
of_fatbinary =
    rows Whole Counts (spaced "--device-c -64 -compress-all -g")
    ++ (rows Beginning Counts (spaced "--cicc-cmdline= --cmdline= --compress-mode=")
    ++ (rows Beginning File (spaced "--create= --embedded-fatbin=")
    ++ (rows Beginning Counts (spaced "--ident=")
    ++ (rows Beginning Image (spaced "--image3=")
    ++ (rows Beginning Counts (spaced "-compress="))))))

-- words of gcc. What it refuses comes first: a row further down fits it too
abbrev pub of_hosts : List Row
of_hosts =
    rows Beginning Refused (spaced "-Wa, -Wl, -Wp,")
    ++ (rows Whole Refused (spaced "-march=native -mtune=native")
    ++ (rows Valued Preprocessor (spaced "-D -I -U -isystem")
    ++ (rows Beginning Preprocessor (spaced "-D -I -U")
    ++ (rows Valued File (spaced "-o")
    ++ (rows Valued Counts (spaced "-x")
    ++ (rows Whole Counts (spaced "-O -O0 -O1 -O2 -O3 -Ofast -Og -Os -S -c -fPIC -fPIE -fcf-protection -fdata-sections -ffast-math")
    ++ (rows Whole Counts (spaced "-ffunction-sections -fno-asynchronous-unwind-tables -fno-common -fno-exceptions -fno-gnu-unique")
    ++ (rows Whole Counts (spaced "-fno-math-errno -fno-omit-frame-pointer -fno-plt -fno-rtti -fno-semantic-interposition -fno-strict-aliasing")
    ++ (rows Whole Counts (spaced "-fno-trapping-math -fomit-frame-pointer -fopenmp -fpermissive -fpic -fpie -fsigned-char -funroll-loops")
    ++ (rows Whole Counts (spaced "-funsigned-char -fvisibility-inlines-hidden -fwrapv")
    ++ (rows Whole Names (spaced "-g")
    ++ (rows Whole Counts (spaced "-g0")
    ++ (rows Whole Names (spaced "-g1 -g2 -ggdb")
    ++ (rows Whole Counts (spaced "-m64 -pedantic -pthread -w")
    ++ (rows Beginning Counts (spaced "-W -fdiagnostics-color -fmax-errors= -fmessage-length= -frandom-seed= -fstack-protector -ftemplate-depth=")
    ++ (rows Beginning Counts (spaced "-fvisibility=")
    ++ (rows Beginning Names (spaced "-gdwarf-")
    ++ (rows Beginning Counts (spaced "-march= -mavx -mbmi -mf16c -mfma -mpopcnt -msse -mtune= -std=")))))))))))))))))))

-- the rows of a tool's own words. nvlink has none: it reads libraries by name
abbrev pub own_words : Program → List Row
own_words Cudafe = of_front_ends
own_words Cicc = of_cicc
own_words Ptxas = of_ptxas
own_words Fatbinary = of_fatbinary
own_words Nvlink = []
own_words Other = of_hosts

-- the rows of words that a tool has in common with cudafe++
abbrev pub shared_words : Program → List Row
shared_words Cicc = of_front_ends
shared_words _ = []

-- the row that says what a word is: the first of the tool's own words that fits it, or else the first of those that it shares
abbrev pub known_word : Program → List ℕ → Option Row
known_word tool word = option_or (find (fits word) (own_words tool)) (find (fits word) (shared_words tool))

-- whether names of files, or the product's own name, reach the product by a word
abbrev pub shows_names : Program → List ℕ → Bool
shows_names tool word = is_some_and is_naming (known_word tool word)

abbrev pub shows_own_name : Program → List ℕ → Bool
shows_own_name tool word = is_some_and is_own_naming (known_word tool word)

-- examples: a refusal counts before a beginning, and a value before a beginning; no word of one tool is another's
pub words_in_the_table :
    map (known_word Other) (codes "-Wa,-a" ∷ codes "-Wall" ∷ codes "-march=native" ∷ codes "-march=x86-64" ∷ codes "-D" ∷ codes "-DA" ∷ codes "-W" ∷ codes "-MD" ∷ [])
    ≡ Some (codes "-Wa,", Beginning, Refused) ∷ Some (codes "-W", Beginning, Counts) ∷ Some (codes "-march=native", Whole, Refused)
    ∷ Some (codes "-march=", Beginning, Counts) ∷ Some (codes "-D", Valued, Preprocessor) ∷ Some (codes "-D", Beginning, Preprocessor) ∷ None ∷ None ∷ []
words_in_the_table = refl

pub words_of_front_ends :
    map (known_word Cicc) (codes "--c++17" ∷ codes "-o" ∷ codes "-tused" ∷ []) ≡ Some (codes "--c++17", Whole, Counts) ∷ Some (codes "-o", Valued, File) ∷ Some (codes "-tused", Whole, Counts) ∷ []
words_of_front_ends = refl

pub words_of_others : map (known_word Cudafe) (codes "-tused" ∷ codes "-o" ∷ []) ≡ None ∷ None ∷ []
words_of_others = refl
