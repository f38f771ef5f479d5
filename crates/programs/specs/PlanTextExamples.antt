-- Texts of plans, worked out by hand.
use Rattle.std.specs.Prelude.{◌≡◌, ℕ, List, [], ◌∷◌, ◌++◌, codes, flat_map}
use Rattle.compilers.specs.declared.compiler.NvccHostCompiler.TheVariants.{Gcc}
use Rattle.command_groups.specs.Plan.{plan_of}
use Rattle.compilers.specs.OneKernel.{at, commands_of}
use Rattle.command_groups.specs.PlanExamples.{setting, plan_of_both, step_and_cicc_twice}
use Rattle.plan_texts.specs.ShownPlan.{show_plan}

-- a text of lines
abbrev pub lines_of : List (List ℕ) → List ℕ
lines_of lines = flat_map (λ line. line ++ 10 ∷ []) lines

-- the one-kernel dry run
abbrev pub OneKernelShown : Type 0
OneKernelShown =
    show_plan (plan_of_both (commands_of (codes "x_0"))) ≡
    lines_of
    (codes "group 0" ∷
    codes "no cd /w && /b/gcc -D__CUDACC__ -E -x c++ kernel.cu -o x_0.cpp4.ii" ∷
    (codes "yes cd /t && /b/cudafe++ --gen_c_file_name x_0.cudafe1.cpp --stub_file_name x_0.cudafe1.stub.c "
    ++ codes "--gen_module_id_file --module_id_file_name kernel.module_id --simt-only x_0.cpp4.ii") ∷
    codes "group 1" ∷
    codes "no cd /w && /b/gcc -D__CUDA_ARCH__=800 -D__CUDACC__ -E -x c++ kernel.cu -o x_0.cpp1.ii" ∷
    (codes "yes cd /t && /b/cicc --device-c -arch compute_80 --module_id_file_name kernel.module_id "
    ++ (codes "--gen_c_file_name x_0.cudafe1.c --stub_file_name x_0.cudafe1.stub.c "
    ++ codes "--gen_device_file_name kernel.cudafe1.gpu x_0.cpp1.ii --simt-only -o kernel.ptx")) ∷
    codes "yes cd /t && /b/ptxas -arch=sm_80 --compile-only kernel.ptx -o kernel.cubin" ∷
    codes "group 2" ∷
    codes "no cd /t && /b/fatbinary --create=kernel.fatbin --image3=kind=elf,sm=80,file=kernel.cubin --embedded-fatbin=kernel.fatbin.c --device-c" ∷
    codes "yes cd /w && /b/gcc -D__CUDA_ARCH__=800 -D__CUDACC__ -c -x c++ x_0.cudafe1.cpp -o kernel.o" ∷
    [])

-- runs without commands
abbrev pub EmptyRunsShown : Type 0
EmptyRunsShown = show_plan (plan_of (setting Gcc (codes "-c")) [] [] []) ≡ lines_of (codes "group 0" ∷ codes "group 1" ∷ [])

-- a superseded pair, and one PTX file that feeds two ptxas steps
abbrev pub DroppedShown : Type 0
DroppedShown =
    show_plan (plan_of_both
    (step_and_cicc_twice
    ++ (at 5 (codes "/b/ptxas") (codes "k.ptx -o a.cubin") ∷ at 6 (codes "/b/ptxas") (codes "k.ptx -o b.cubin") ∷ []))) ≡
    lines_of
    (codes "group 0" ∷
    codes "group 1" ∷
    codes "no cd /w && /b/gcc -D__NVCC__ -E k.cu -o x_0.cpp1.ii" ∷
    codes "yes cd /t && /b/cicc x_0.cpp1.ii -o k.ptx" ∷
    codes "yes cd /t && /b/ptxas k.ptx -o a.cubin" ∷
    codes "yes cd /t && /b/ptxas k.ptx -o b.cubin" ∷
    codes "group 2" ∷
    codes "dropped 1 run 2 Superseded /b/gcc -D__NVCC__ -E k.cu -o x_0.cpp1.ii" ∷
    codes "dropped 2 run 1 Superseded /b/cicc x_0.cpp1.ii -o k.ptx" ∷
    [])

-- a ptxas whose file no cicc makes
abbrev pub PtxasWithoutAGroupShown : Type 0
PtxasWithoutAGroupShown =
    show_plan (plan_of_both
    (at 1 (codes "/b/gcc") (codes "-D__NVCC__ -E k.cu -o x_0.cpp1.ii k.ptx")
    ∷ at 2 (codes "/b/ptxas") (codes "k.ptx -o a.cubin") ∷ [])) ≡
    lines_of
    (codes "group 0" ∷
    codes "group 1" ∷
    codes "no cd /w && /b/gcc -D__NVCC__ -E k.cu -o x_0.cpp1.ii k.ptx" ∷
    codes "group 2" ∷
    codes "dropped 2 run 1 NoPtxasGroup /b/ptxas k.ptx -o a.cubin" ∷
    [])

-- a cicc that misses the group of an output with a `/` at its end
abbrev pub OutputWithASlashShown : Type 0
OutputWithASlashShown =
    show_plan (plan_of_both (at 1 (codes "/b/gcc") (codes "-D__NVCC__ -E k.cu -o k.cpp1.ii/") ∷ at 2 (codes "/b/cicc") (codes "x_0.cpp1.ii -o k.ptx") ∷ [])) ≡
    lines_of
    (codes "group 0" ∷
    codes "group 1" ∷
    codes "no cd /w && /b/gcc -D__NVCC__ -E k.cu -o k.cpp1.ii/" ∷
    codes "group 2" ∷
    codes "dropped 2 run 1 NoCiccGroup /b/cicc x_0.cpp1.ii -o k.ptx" ∷
    [])

-- a program whose name is empty
abbrev pub NotForCudaShown : Type 0
NotForCudaShown =
    show_plan (plan_of_both (at 1 (codes "/b/") (codes "x") ∷ [])) ≡
    lines_of (codes "group 0" ∷ codes "group 1" ∷ codes "dropped 1 run 2 NotCuda /b/ x" ∷ [])
