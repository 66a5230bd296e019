-- The program that `soak` runs.
use Rattle.std.specs.Prelude.{ℕ, List, ◌++◌, codes}

-- the text of the program: each other process sends process 0 a thousand letters and waits for an answer to each
unfoldable pub soak_text : List ℕ
soak_text =
    codes "#include <stdio.h>\n"
    ++ codes "int total;\n"
    ++ codes "int main(void)\n"
    ++ codes "{\n"
    ++ codes "    int i;\n"
    ++ codes "    if (self() == 0) {\n"
    ++ codes "        for (i = 0; i < 3000; i++) {\n"
    ++ codes "            total += receive(3u);\n"
    ++ codes "            send(from(), 2, total);\n"
    ++ codes "        }\n"
    ++ codes "    } else {\n"
    ++ codes "        for (i = 0; i < 1000; i++) {\n"
    ++ codes "            send(0, i % 2, self() * 100 + i);\n"
    ++ codes "            receive(4u);\n"
    ++ codes "        }\n"
    ++ codes "    }\n"
    ++ codes "    printf(\"%d\\n\", total);\n"
    ++ codes "    return 0;\n"
    ++ codes "}\n"
