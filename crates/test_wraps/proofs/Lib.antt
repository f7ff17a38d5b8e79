mod MostLines
