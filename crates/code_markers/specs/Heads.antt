-- What a reader knows of a main header so far, as the definitions have it.
use Rattle.codec_terms.specs.MainReading as terms
use Rattle.code_markers.specs.declared.head.HeadSoFar.{HeadSoFar}

abbrev pub so_far : HeadSoFar → terms.HeadSoFar
so_far head =
    record {
      shape = head.shape;
      coded = head.coded;
      planes = head.planes;
      parts = head.parts;
      cut = head.cut;
    }
